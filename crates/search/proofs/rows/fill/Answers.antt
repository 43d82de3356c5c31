-- `rows::fill` meets its contract. Assumes nothing.
use mathlib.Core.Path.{◌≡◌, ap, ◌∙◌}
use mathlib.Core.List.{List}
use Prim.Native.Nat.{ℕ}
use native.Mathlib.Omega.{arith}
use lib.ListN.{length, set}
use Rattle.search.specs.Rows.{result_in}
use Rattle.search.proofs.Filled.{filled_to, filled_none, filled-all, filled-length, filled_more}
use Rattle.search.proofs.rows.fill.Goals as goal
use Rattle.search.proofs.rows.fill.Goals.{At-loop-i}

-- the row of results keeps its length
kept : (c : At-loop-i) → length c.loop-i.results ≡ length c.args.results.now
kept c =
    let a = c.args in
    ap length c.loop-i.invariant ∙ filled-length (result_in a.image.now) a.keys.now a.results.now c.requires.1 c.loop-i.i c.loop-i.auto.i-end

pub loop-i-init : goal.loop-i-init
loop-i-init c = let a = c.args in filled_none (result_in a.image.now) a.keys.now a.results.now

pub bounds-results-i : goal.bounds-results-i
bounds-results-i c = let n = kept (goal.at.bounds-results-i c).At-loop-i in let p = c.requires.1 in let l = c.loop-i-test.true in omega arith

pub loop-i-preserved : goal.loop-i-preserved
loop-i-preserved c =
    let a = c.args in
    let l = c.loop-i-test.true in
    ap (λ (r : List ℕ). set r c.loop-i.i c.result_in.result) c.loop-i.invariant
    ∙ filled_more (result_in a.image.now) a.keys.now a.results.now c.requires.1 c.loop-i.i l _ c.result_in.ensures

pub shape_of-results : goal.shape_of-results
shape_of-results c = kept (goal.at.shape_of-results c).At-loop-i

pub returns : goal.returns
returns c =
    let a = c.args in
    let l = c.loop-i.auto.i-end in
    let o = c.loop-i-test.false in
    let e : c.loop-i.i ≡ length a.keys.now = omega arith in
    c.loop-i.invariant ∙ ap (filled_to (result_in a.image.now) a.keys.now a.results.now) e ∙ filled-all (result_in a.image.now) a.keys.now a.results.now
