-- What a comparison of two numbers answers, and comparisons of other numbers with the same answer.
-- Assumes nothing.
use mathlib.Core.Path.{◌≡◌, sym, ◌∙◌}
use mathlib.Core.Bool.{Bool, true, false}
use Prim.Native.Nat.{ℕ, ◌<◌, ◌≤◌}
use native.Mathlib.Omega.{arith}
use native.Mathlib.Decide.{ℕ_discrete, dec_lt}
use lib.IntN.{ℤ, pos, negsuc}
use lib.Dec.{eqb, ltb}
use borrow.Author.Tests.{eq-eqb, ne_eqb, lt-ltb, le-ltb}
use Rattle.btree.specs.Ranked.{ranked}
use Rattle.btree.proofs.Decisions.{cond_yes, cond_no}

-- an answer that is true below and false from there on
pub ltb-is : (t : Bool) (x y : ℕ) → (x < y → t ≡ true) → (y ≤ x → t ≡ false) → t ≡ ltb x y
ltb-is t x y f g = go (dec_lt x y)
  where
    go : Dec (x < y) → t ≡ ltb x y
    go (yes p) = f p ∙ sym (lt-ltb x y p)
    go (no n) = let h : y ≤ x = omega arith in g h ∙ sym (le-ltb x y h)

-- two comparisons with one answer
pub eqb-as : (a b x y : ℕ) → (a ≡ b → x ≡ y) → (x ≡ y → a ≡ b) → eqb a b ≡ eqb x y
eqb-as a b x y f g = go (ℕ_discrete a b)
  where
    go : Dec (a ≡ b) → eqb a b ≡ eqb x y
    go (yes p) = eq-eqb a b p ∙ sym (eq-eqb x y (f p))
    go (no n) = ne_eqb a b n ∙ sym (ne_eqb x y (λ e. n (g e)))

pub ranked-below : (a b : ℕ) (x : ℤ) → a < b → ranked a b x ≡ negsuc 0
ranked-below a b x h = cond_yes (dec_lt a b) _ _ h

pub ranked-above : (a b : ℕ) (x : ℤ) → b < a → ranked a b x ≡ pos 1
ranked-above a b x h = cond_no (dec_lt a b) _ _ (omega arith) ∙ cond_yes (dec_lt b a) _ _ h

pub ranked-same : (a b : ℕ) (x : ℤ) → a ≡ b → ranked a b x ≡ x
ranked-same a b x h = cond_no (dec_lt a b) _ _ (omega arith) ∙ cond_no (dec_lt b a) _ _ (omega arith)

-- 0 is answered of equal numbers alone, and where the next answer is 0
pub ranked-zero : (a b : ℕ) (x : ℤ) → ranked a b x ≡ pos 0 → (a ≡ b) × (x ≡ pos 0)
ranked-zero a b x e = go (dec_lt a b) (dec_lt b a)
  where
    go : Dec (a < b) → Dec (b < a) → (a ≡ b) × (x ≡ pos 0)
    go (yes p) q = let y = ranked-below a b x p in let z : ◌≡◌ {A = ℕ} 0 1 = cc in absurd (omega arith)
    go (no p) (yes q) = let y = ranked-above a b x q in let z : ◌≡◌ {A = ℕ} 0 1 = cc in absurd (omega arith)
    go (no p) (no q) = let s : a ≡ b = omega arith in (s, sym (ranked-same a b x s) ∙ e)

-- by one field: below or above decides, and equal goes on
pub by_field : (m n c d : ℕ) (x y : ℤ) → (m < n → c < d) → (n < m → d < c) → (m ≡ n → x ≡ ranked c d y) → ranked m n x ≡ ranked c d y
by_field m n c d x y lo hi same = go (dec_lt m n) (dec_lt n m)
  where
    go : Dec (m < n) → Dec (n < m) → ranked m n x ≡ ranked c d y
    go (yes p) q = ranked-below m n x p ∙ sym (ranked-below c d y (lo p))
    go (no p) (yes q) = ranked-above m n x q ∙ sym (ranked-above c d y (hi q))
    go (no p) (no q) = let e : m ≡ n = omega arith in ranked-same m n x e ∙ same e

-- numbers that differ decide, whatever the next answer is
pub ranked-apart : (a b : ℕ) (x y : ℤ) → (a ≡ b → ⊥) → ranked a b x ≡ ranked a b y
ranked-apart a b x y n = by_field a b a b x y (λ h. h) (λ h. h) (λ e. absurd (n e))
