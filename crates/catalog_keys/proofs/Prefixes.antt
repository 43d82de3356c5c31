-- Names that weigh the same up to a byte compare as what is left of them.
-- Assumes nothing.
use mathlib.Core.Path.{◌≡◌, refl, sym, ◌∙◌}
use mathlib.Core.Logic.{◌⊎◌, ⊎_elim}
use mathlib.Core.List.{List, [], ◌∷◌}
use mathlib.Core.Bool.{true, false}
use Prim.Native.Nat.{ℕ, suc, ◌+◌}
use native.Mathlib.Omega.{arith}
use lib.IntN.{pos}
use lib.ListN.{length}
use Rattle.std.proofs.Common.{Ordering, nat_cmp}
use Rattle.std.specs.Ordering.{is_ne}
use Rattle.btree.specs.Ranked.{ranked}
use Rattle.btree.proofs.Ranked.{ranked-below, ranked-above, ranked-same, by_field}
use Rattle.catalog_keys.specs.Weights.{weight}
use Rattle.catalog_keys.specs.Key.{number, names}
use Rattle.catalog_keys.proofs.Answered.{number-apart, ranked-on}

-- a name that begins another
names-ended : (xs ys : List ℕ) → (length xs ≡ 0) ⊎ (length ys ≡ 0) → names xs ys ≡ ranked (length xs) (length ys) (pos 0)
unfolding names
names-ended [] [] h = sym (ranked-same 0 0 _ refl)
names-ended [] (y ∷ ys) h = sym (ranked-below 0 (suc (length ys)) _ (omega arith))
names-ended (x ∷ xs) [] h = sym (ranked-above (suc (length xs)) 0 _ (omega arith))
names-ended (x ∷ xs) (y ∷ ys) h = absurd (⊎_elim (λ e. omega arith) (λ e. omega arith) h)

module _ (xs ys : List ℕ) (x y : ℕ) (us vs : List ℕ) (e : xs ≡ x ∷ us) (f : ys ≡ y ∷ vs) where
  names-next : names xs ys ≡ ranked (weight x) (weight y) (names us vs)
  unfolding names
  names-next = rw (e, f)

  module _ (p q : ℕ) (r : Ordering) (d : p ≡ weight x) (g : q ≡ weight y) (h : r ≡ nat_cmp p q) where
    -- bytes that weigh differently decide
    pub names-apart : true ≡ is_ne r → number r ≡ names xs ys
    names-apart n = number-apart p q (names us vs) r h n ∙ rw (d, g) (sym names-next)

    -- the others leave it to the bytes after them
    pub names-on : false ≡ is_ne r → names xs ys ≡ names us vs
    names-on n = names-next ∙ rw (← d, ← g) (ranked-on p q (names us vs) r h n)

-- where one name ends, the lengths decide
pub names-end : (xs ys us vs : List ℕ) → names xs ys ≡ names us vs → length xs + length vs ≡ length ys + length us → (length us ≡ 0) ⊎ (length vs ≡ 0)
    → names xs ys ≡ ranked (length xs) (length ys) (pos 0)
names-end xs ys us vs e l h =
    e ∙ names-ended us vs h
    ∙ by_field (length us) (length vs) (length xs) (length ys) _ _ (λ h. omega arith) (λ h. omega arith)
    (λ q. sym (ranked-same (length xs) (length ys) _ (omega arith)))
