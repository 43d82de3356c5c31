-- The nodes along links, one after another, and a list that is met from its end.
-- Assumes nothing.
use mathlib.Core.Path.{◌≡◌, refl}
use mathlib.Core.Logic.{◌⊎◌, inl, inr, ⊎_elim}
use mathlib.Core.List.Memᴰ
use mathlib.Core.List.{List, [], ◌∷◌, reverse_aux}
use Prim.Native.Nat.{ℕ, zero, suc, ◌-◌, ◌<◌}
use native.Mathlib.Omega.{arith}
use Rattle.btree.specs.Lists.{◌∈◌, along}

module _ (link : ℕ → ℕ) where
  pub along-on : (f n : ℕ) → 0 < f → (n ≡ 0 → ⊥) → along link f n ≡ n ∷ along link (f - 1) (link n)
  along-on zero n h z = absurd (omega arith)
  along-on (suc f) zero h z = absurd (z refl)
  along-on (suc f) (suc n) h z = let e : suc f - 1 ≡ f = omega arith in rw e

  pub along-end : (f n : ℕ) → (f ≡ 0) ⊎ (n ≡ 0) → along link f n ≡ []
  along-end zero n e = refl
  along-end (suc f) zero e = refl
  along-end (suc f) (suc n) e = absurd (⊎_elim (λ q. omega arith) (λ q. omega arith) e)

module _ {A : Type 0} {x : A} where
  pub back-cases : (met rest : List A) → x ∈ reverse_aux met rest → (x ∈ met) ⊎ (x ∈ rest)
  back-cases [] rest m = inr m
  back-cases (y ∷ met) rest m =
      ⊎_elim (λ a. inl (Memᴰ.tail a)) (λ b. ⊎_elim (λ e. inl (Memᴰ.head e)) inr (Memᴰ.cases_cons b)) (back-cases met (y ∷ rest) m)

  back-rest : (met rest : List A) → x ∈ rest → x ∈ reverse_aux met rest
  back-rest [] rest m = m
  back-rest (y ∷ met) rest m = back-rest met (y ∷ rest) (Memᴰ.tail m)

  pub back-met : (met rest : List A) → x ∈ met → x ∈ reverse_aux met rest
  back-met [] rest m = elim m [ ]
  back-met (y ∷ met) rest (Memᴰ.head e) = back-rest met (y ∷ rest) (Memᴰ.head e)
  back-met (y ∷ met) rest (Memᴰ.tail m) = back-met met (y ∷ rest) m
