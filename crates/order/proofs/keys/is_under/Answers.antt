-- `keys::is_under` meets its contract. Assumes nothing.
use Rattle.btree.specs.Header.{view_of}
use Rattle.btree.proofs.Telling.{tells-yes, tells-less}
use Rattle.order.proofs.Bounds.{no_bound, bound-under}
use Rattle.order.proofs.keys.is_under.Goals as goal

pub returns-then-high-eq0 : goal.returns-then-high-eq0
returns-then-high-eq0 c = tells-yes (no_bound _ _ _ _ c.if-high-eq0.true)

pub returns : goal.returns
unfolding view_of
returns c =
    let a = c.args in
    let m = bound-under a.form a.image.now _ a.high c.if-high-eq0.false in
    tells-less _ _ (rw c.record_at.ensures.0 at c.is_below.ensures) (λ e. m.1 e) (λ f. m.0 f)
