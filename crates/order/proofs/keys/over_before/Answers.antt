-- `keys::over_before` meets its contract. Assumes nothing.
use native.Mathlib.Omega.{arith}
use Rattle.btree.specs.Header.{view_of}
use Rattle.btree.proofs.Telling.{tells-yes, tells-less}
use Rattle.order.proofs.Rising.{before-is}
use Rattle.order.proofs.keys.over_before.Goals as goal

pub returns-then-i-eq0 : goal.returns-then-i-eq0
returns-then-i-eq0 c = tells-yes (λ h. absurd (omega arith))

pub returns : goal.returns
unfolding view_of
returns c =
    let z = c.if-i-eq0.false in
    let a = c.record_at.ensures.0 in
    let b = c.record_at-2.ensures.0 in
    let e = before-is _ z in
    tells-less _ _ (rw (a, b, e) at c.is_below.ensures) (λ l h. l) (λ f. f (omega arith))
