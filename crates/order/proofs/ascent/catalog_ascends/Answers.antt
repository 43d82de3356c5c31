-- `ascent::catalog_ascends` meets its contract. Assumes nothing.
use native.Mathlib.Omega.{arith}
use Prim.Native.Nat.{◌+◌, ◌-◌, suc}
use mathlib.Core.Path.{◌≡◌, sym, ◌∙◌}
use lib.Dec.{ltb}
use borrow.Author.Tests.{ltb-true, ltb-false}
use borrow.Author.Count.{below_more}
use Rattle.btree.specs.Header.{view_of}
use Rattle.btree.proofs.Telling.{tells-yes, tells-no}
use Rattle.formats.specs.Format.{view}
use Rattle.formats.proofs.Ranks.{rank-catalog}
use Rattle.order.proofs.Rising.{not-ascending}
use Rattle.order.proofs.ascent.catalog_ascends.Goals as goal
use Rattle.order.proofs.ascent.catalog_ascends.Goals.{After-is_below, At-loop-i}

counts : (c : At-loop-i) → let a = c.args in (view a.form a.image.now).count a.node ≡ c.count_of-c.result
unfolding view_of
counts c = sym c.count_of-c.ensures.0

-- what the comparison says of the keys of the node
below : (c : After-is_below) → let a = c.args in
    c.is_below.result ≡ ltb ((view a.form a.image.now).key a.node (c.loop-i.i - 1)) ((view a.form a.image.now).key a.node c.loop-i.i)
unfolding view_of
below c =
    let t : c.args.form.tree ≡ 0 → ⊥ = λ z. let p = c.requires.0 in omega arith in
    rw (← c.loop-i.invariant.1, ← c.record_at-next.ensures.0, rank-catalog c.args.form t c.args.image.now c.loop-i.at, rank-catalog c.args.form t c.args.image.now c.record_at-next.result) c.is_below.ensures

pub loop-i-init : goal.loop-i-init
loop-i-init c = let r = c.record_at-at.ensures in (c.character_order-table.ensures, r.0, r.1, λ k h z. absurd (omega arith))

pub is_below-requires : goal.is_below-requires
is_below-requires c = let l = c.loop-i.invariant in (l.0, omega (arith, l.2), omega (arith, c.record_at-next.ensures.1))

pub returns-then-not-is_below : goal.returns-then-not-is_below
returns-then-not-is_below c =
    let n = counts (goal.at.returns-then-not-is_below c).At-loop-i in
    let b = ltb-false _ _ (sym (below (goal.at.returns-then-not-is_below c).After-is_below) ∙ c.if-not-is_below.true) in
    let e : c.loop-i.i - 1 + 1 ≡ c.loop-i.i = omega (arith, c.loop-i.auto.i) in
    let a = c.args in
    tells-no (not-ascending (view a.form a.image.now) a.node (c.loop-i.i - 1) (rw e b) (omega (arith, c.loop-i-test.true)))

pub loop-i-preserved : goal.loop-i-preserved
unfolding view_of
loop-i-preserved c =
    let r = c.record_at-next.ensures in
    let b = ltb-true _ _ (sym (below (goal.at.loop-i-preserved c).After-is_below) ∙ c.if-not-is_below.false) in
    let e : c.loop-i.i + 1 - 1 ≡ c.loop-i.i = omega arith in
    (c.loop-i.invariant.0, rw e r.0, r.1, below_more _ _ c.loop-i.invariant.3 (λ z. b))

pub returns : goal.returns
unfolding view_of
returns c =
    let n = c.count_of-c.ensures.0 in
    tells-yes (λ j h. let e : suc j - 1 ≡ j = omega arith in rw e at (c.loop-i.invariant.3 (suc j) (omega arith) (omega arith)))
