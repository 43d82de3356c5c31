-- `keys::first_meets` meets its contract. Assumes nothing.
use native.Mathlib.Omega.{arith}
use Rattle.btree.specs.Header.{view_of}
use Rattle.btree.proofs.Telling.{tells-yes, tells-equal}
use Rattle.order.proofs.Bounds.{no_pointer, pointer-meets}
use Rattle.order.proofs.keys.first_meets.Goals as goal
use Rattle.order.proofs.keys.first_meets.Goals.{then-low-eq0-via-then-low-eq0, then-low-eq0-via-else-low-eq0+then-count_of-eq0}

pub returns-then-low-eq0 : goal.returns-then-low-eq0
unfolding view_of
returns-then-low-eq0 c =
    tells-yes (elim c.then-low-eq0.branch [
      | then-low-eq0-via-then-low-eq0 w ↦ λ u. no_pointer _ _ _ _ w.if-low-eq0.true
      | then-low-eq0-via-else-low-eq0+then-count_of-eq0 w ↦ λ u. let e = w.count_of.ensures.0 in let z = w.if-count_of-eq0.true in absurd (omega arith)
    ])

pub returns : goal.returns
unfolding view_of
returns c =
    let n = c.count_of.ensures.0 in
    let z = c.if-count_of-eq0.false in
    let a = c.args in
    let m = pointer-meets a.form a.image.now _ a.low c.if-low-eq0.false in
    tells-equal _ _ (rw c.record_at.ensures.0 at c.is_same.ensures) (λ e u. m.1 e) (λ f. m.0 (f (omega arith)))
