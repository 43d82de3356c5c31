-- A key that points at a node or bounds its keys, by its place, and what it stands for.
-- Assumes nothing.
use mathlib.Core.Path.{◌≡◌, refl, ap, ◌∙◌}
use mathlib.Core.Logic.{◌↔◌}
use mathlib.Core.Option.{none, some}
use mathlib.Core.List.{List}
use Prim.Native.Nat.{ℕ, ◌+◌, ◌-◌, ◌<◌}
use native.Mathlib.Omega.{arith}
use Rattle.btree.specs.Walk.{Under, Meets}
use Rattle.frame.specs.declared.form.Form.{Form}
use Rattle.frame.proofs.Forms.{if-not}
use Rattle.formats.specs.Format.{rank_at}
use Rattle.order.specs.Bound.{bound}

module _ (form : Form) (img : List ℕ) where
  pub bound_some : (after : ℕ) → (after ≡ 0 → ⊥) → bound form img after ≡ some (rank_at form img (after - 1))
  unfolding bound
  bound_some after h = if-not after none _ h

  pub bound-after : (at : ℕ) → bound form img (at + 1) ≡ some (rank_at form img at)
  bound-after at = let e : at + 1 - 1 ≡ at = omega arith in bound_some (at + 1) (λ z. omega arith) ∙ ap (λ (x : ℕ). some (rank_at form img x)) e

  pub bound-none : bound form img 0 ≡ none
  unfolding bound
  bound-none = refl

  -- no key points at the root, and none bounds it
  pub no_pointer : (k after : ℕ) → after ≡ 0 → Meets k (bound form img after)
  unfolding bound
  no_pointer k after e = rw e tt

  pub no_bound : (k after : ℕ) → after ≡ 0 → Under k (bound form img after)
  unfolding bound
  no_bound k after e = rw e tt

  module _ (k after : ℕ) (h : after ≡ 0 → ⊥) where
    pub pointer-meets : Meets k (bound form img after) ↔ (k ≡ rank_at form img (after - 1))
    pointer-meets = rw (bound_some after h) (λ e. e, λ e. e)

    pub bound-under : Under k (bound form img after) ↔ (k < rank_at form img (after - 1))
    bound-under = rw (bound_some after h) (λ e. e, λ e. e)
