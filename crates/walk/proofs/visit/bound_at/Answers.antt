-- `visit::bound_at` meets its contract where there is a next record. Assumes nothing.
use native.Mathlib.Numerals.{add-one}
use mathlib.Core.Option.{some}
use Rattle.btree.specs.Header.{view_of}
use Rattle.btree.proofs.Decisions.{cond_yes}
use Rattle.order.proofs.Bounds.{bound-after}
use native.Mathlib.Decide.{dec_lt}
use Rattle.formats.specs.Format.{rank_at, view}
use Prim.Native.Nat.{ℕ, suc}
use native.Mathlib.Omega.{arith}
use mathlib.Core.Path.{sym, ap, ◌∙◌}
use Rattle.walk.proofs.visit.bound_at.Goals as goal

pub returns-then-i-c : goal.returns-then-i-c
unfolding view_of
returns-then-i-c c =
    let a = c.args in
    let v = view a.form a.image.now in (
      bound-after a.form a.image.now _ ∙ ap (λ (x : ℕ). some (rank_at a.form a.image.now x)) c.record_at.ensures.0
          ∙ ap (λ (j : ℕ). some (v.key a.e.node j)) (add-one a.i)
          ∙ sym (cond_yes (dec_lt (suc a.i) (v.count a.e.node)) _ _ (omega arith)),
      omega (arith, c.record_at.ensures.1),
    )
