-- `keys::first_fall` meets its contract. Assumes nothing.
use native.Mathlib.Omega.{arith}
use mathlib.Core.Path.{sym, ap}
use borrow.Author.Count.{below_more}
use Rattle.btree.specs.Header.{view_of}
use Rattle.btree.specs.Hits.{hit_of}
use Rattle.btree.specs.Keys.{Rises, dec_rises, first_fall}
use Rattle.btree.proofs.Decisions.{none-not, not_first}
use Rattle.formats.specs.Format.{view}
use Rattle.order.specs.Bound.{bound}
use Rattle.btree.proofs.Telling.{told-no}
use Rattle.order.proofs.keys.first_fall.Goals as goal
use Rattle.order.proofs.keys.first_fall.Goals.{then-not-over_before-via-then-not-over_before, then-not-over_before-via-else-not-over_before+then-not-is_under}

pub returns-then-not-over_before : goal.returns-then-not-over_before
unfolding view_of first_fall
returns-then-not-over_before c =
    let a = c.args in
    let v = view a.form a.image.now in
    let high = bound a.form a.image.now a.high in
    let n = c.count_of-i-end.ensures in
    let falls : Rises v high a.node c.loop-i.i → ⊥ =
    elim c.then-not-over_before.branch [
      | then-not-over_before-via-then-not-over_before w ↦ λ r. told-no _ c.over_before.ensures w.if-not-over_before.true r.0
      | then-not-over_before-via-else-not-over_before+then-not-is_under w ↦ λ r. told-no _ w.is_under.ensures w.if-not-is_under.true r.1
    ] in
    sym (ap hit_of (not_first (dec_rises v high a.node) c.loop-i.i 0 _ (omega arith) (omega arith) (λ j u. c.loop-i.invariant j) falls))

pub loop-i-preserved : goal.loop-i-preserved
loop-i-preserved c = below_more _ _ c.loop-i.invariant (c.over_before.ensures.holds c.if-not-over_before.false, c.is_under.ensures.holds c.if-not-is_under.false)

pub returns : goal.returns
unfolding view_of first_fall
returns c =
    let a = c.args in
    let n = c.count_of-i-end.ensures in
    sym (ap hit_of (none-not (dec_rises (view a.form a.image.now) (bound a.form a.image.now a.high) a.node) 0 _ (λ j u w. c.loop-i.invariant j (omega arith))))
