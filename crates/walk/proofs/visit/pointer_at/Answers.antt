-- `visit::pointer_at` meets its contract. Assumes nothing.
use native.Mathlib.Numerals.{add-one}
use mathlib.Core.Option.{some}
use Rattle.image.specs.Bytes.{be32_at}
use Rattle.btree.specs.Header.{view_of}
use Rattle.order.proofs.Bounds.{bound-after}
use Rattle.formats.specs.Format.{rank_at}
use Prim.Native.Nat.{ℕ}
use native.Mathlib.Omega.{arith}
use mathlib.Core.Path.{ap, ◌∙◌}
use Rattle.walk.proofs.visit.pointer_at.Goals as goal

pub returns : goal.returns
unfolding view_of
returns c =
    let a = c.args in
    let e = c.record_at-start.ensures.0 in
    let z = c.key_size.ensures.0 in
    record {
      child = c.be32.ensures ∙ ap (be32_at a.image.now) (omega arith);
      from = c.child_place.ensures;
      level = add-one a.e.level;
      low = bound-after a.form a.image.now _ ∙ ap (λ (x : ℕ). some (rank_at a.form a.image.now x)) e;
      under = c.bound_at.ensures.0;
    }
