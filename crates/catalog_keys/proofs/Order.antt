-- Keys are in the order of their ranks.
-- Assumes nothing.
use mathlib.Core.Path.{◌≡◌, refl, sym, ap, ◌∙◌}
use mathlib.Core.Logic.{◌↔◌}
use mathlib.Core.List.{List, [], ◌∷◌}
use Prim.Native.Nat.{ℕ, zero, suc, ◌+◌, ◌*◌, ◌≤◌, ◌<◌, min}
use native.Mathlib.Omega.{arith}
use native.Mathlib.Decide.{dec_le}
use lib.IntN.{ℤ, pos}
use lib.ListN.{length, take, length-take}
use lib.Seq.{take_all}
use Rattle.btree.specs.Ranked.{ranked}
use Rattle.btree.proofs.Ranked.{ranked-below, ranked-above, ranked-same, ranked-zero, by_field}
use Rattle.catalog_keys.specs.Weights.{weight}
use Rattle.catalog_keys.specs.Key.{Key, IsShort, asked, names, compared, weigh, digit, spelled, rank, longest_name}
use Rattle.catalog_keys.proofs.Letters.{weight-small}

digit-small : (name : List ℕ) (i : ℕ) → digit name i < 257
unfolding digit
digit-small [] i = omega arith
digit-small (x ∷ xs) zero = let s = weight-small x in omega arith
digit-small (x ∷ xs) (suc i) = digit-small xs i

-- a name without its first byte
rest : List ℕ → List ℕ
rest [] = []
rest (x ∷ xs) = xs

rest-short : (xs : List ℕ) (n : ℕ) → length xs ≤ suc n → length (rest xs) ≤ n
unfolding rest
rest-short [] n h = omega arith
rest-short (x ∷ xs) n h = omega arith

-- names compare by their first digits, and then by the rest
names-step : (xs ys : List ℕ) → names xs ys ≡ ranked (digit xs 0) (digit ys 0) (names (rest xs) (rest ys))
unfolding names digit rest
names-step [] [] = sym (ranked-same 0 0 (pos 0) refl)
names-step [] (y ∷ ys) = sym (ranked-below 0 (suc (weight y)) _ (omega arith))
names-step (x ∷ xs) [] = sym (ranked-above (suc (weight x)) 0 _ (omega arith))
names-step (x ∷ xs) (y ∷ ys) =
    by_field (weight x) (weight y) _ _ _ _ (λ h. omega arith) (λ h. omega arith) (λ e. sym (ranked-same (suc (weight x)) (suc (weight y)) _ (omega arith)))

-- the first digit may be counted to the number before it
spelled-first : (p : ℕ) (f : ℕ → ℕ) (n : ℕ) → spelled p f (suc n) ≡ spelled (p * 257 + f 0) (λ i. f (suc i)) n
unfolding spelled
spelled-first p f zero = refl
spelled-first p f (suc n) = let r = spelled-first p f n in omega arith

spelled_step : (p : ℕ) (xs : List ℕ) (n : ℕ) → spelled p (digit xs) (suc n) ≡ spelled (p * 257 + digit xs 0) (digit (rest xs)) n
unfolding digit rest
spelled_step p [] n = spelled-first p (digit []) n
spelled_step p (x ∷ xs) n = spelled-first p (digit (x ∷ xs)) n

-- two numbers and then two digits, compared one after the other, are two numbers of one digit more
one_more : (p q x y : ℕ) (z : ℤ) → x < 257 → y < 257 → ranked p q (ranked x y z) ≡ ranked (p * 257 + x) (q * 257 + y) z
one_more p q x y z hx hy =
    by_field p q _ _ _ _ (λ h. omega arith) (λ h. omega arith)
    (λ e. by_field x y _ _ _ _ (λ h. omega arith) (λ h. omega arith)
    (λ d. sym (ranked-same (p * 257 + x) (q * 257 + y) z (omega arith))))

-- numbers and then names, compared one after the other, are the numbers spelled with the names' digits
spelled-order : (n p q : ℕ) (xs ys : List ℕ) → length xs ≤ n → length ys ≤ n
    → ranked p q (names xs ys) ≡ ranked (spelled p (digit xs) n) (spelled q (digit ys) n) (pos 0)
unfolding names digit spelled
spelled-order zero p q [] [] a b = refl
spelled-order zero p q [] (y ∷ ys) a b = absurd (omega arith)
spelled-order zero p q (x ∷ xs) ys a b = absurd (omega arith)
spelled-order (suc n) p q xs ys a b =
    rw (names-step xs ys, spelled_step p xs n, spelled_step q ys n)
    (one_more p q (digit xs 0) (digit ys 0) _ (digit-small xs 0) (digit-small ys 0)
    ∙ spelled-order n _ _ (rest xs) (rest ys) (rest-short xs n a) (rest-short ys n b))

-- "Keys compare by parent, then name" as their ranks compare
pub rank-order : (a b : Key) → IsShort a → IsShort b → compared a b ≡ ranked (rank a) (rank b) (pos 0)
unfolding compared rank
rank-order a b ha hb = spelled-order 31 a.parent b.parent a.name b.name ha hb

-- keys compare as 0 exactly when their ranks are equal
pub rank_same : (a b : Key) → IsShort a → IsShort b → (compared a b ≡ pos 0) ↔ (rank a ≡ rank b)
rank_same a b ha hb = (λ e. (ranked-zero _ _ _ (sym (rank-order a b ha hb) ∙ e)).0, λ e. rank-order a b ha hb ∙ ranked-same _ _ _ e)

names_same : (xs ys : List ℕ) → (names xs ys ≡ pos 0) ↔ (weigh xs ≡ weigh ys)
unfolding names weigh
names_same [] [] = (λ e. refl, λ e. refl)
names_same [] (y ∷ ys) = (λ e. cc, λ e. cc)
names_same (x ∷ xs) [] = (λ e. cc, λ e. cc)
names_same (x ∷ xs) (y ∷ ys) = (
  λ e. let r = ranked-zero _ _ _ e in let t = (names_same xs ys).0 r.1 in cc,
  λ e. let h : weight x ≡ weight y = cc in let t : weigh xs ≡ weigh ys = cc in ranked-same _ _ _ h ∙ (names_same xs ys).1 t,
)

-- "keys that weigh the same are the same key": ranks are equal exactly where parents and weights are
pub weigh-same : (a b : Key) → IsShort a → IsShort b → (rank a ≡ rank b) ↔ ((a.parent ≡ b.parent) × (weigh a.name ≡ weigh b.name))
unfolding compared
weigh-same a b ha hb = (there, back)
  where
    there : rank a ≡ rank b → (a.parent ≡ b.parent) × (weigh a.name ≡ weigh b.name)
    there e = let r = ranked-zero _ _ _ ((rank_same a b ha hb).1 e) in (r.0, (names_same _ _).0 r.1)

    back : (a.parent ≡ b.parent) × (weigh a.name ≡ weigh b.name) → rank a ≡ rank b
    back (p, w) = (rank_same a b ha hb).0 (ranked-same _ _ _ p ∙ (names_same _ _).1 w)

spelled-take : (n p : ℕ) (xs : List ℕ) → spelled p (digit (take n xs)) n ≡ spelled p (digit xs) n
unfolding digit spelled rest
spelled-take zero p xs = refl
spelled-take (suc n) p [] = refl
spelled-take (suc n) p (x ∷ xs) = spelled_step p (x ∷ take n xs) n ∙ spelled-take n _ xs ∙ sym (spelled_step p (x ∷ xs) n)

-- of a longer name the first 31 bytes rank, and of any other all
module _ (p : ℕ) (name : List ℕ) (n : ℕ) (e : n ≡ min longest_name (length name)) where
  pub cut_short : IsShort (asked p (take n name))
  cut_short = let l = length-take n name in omega arith

  pub cut-none : IsShort (asked p name) → asked p (take n name) ≡ asked p name
  cut-none h = ap (asked p) (take_all n name (omega arith))

  pub cut-rank : rank (asked p (take n name)) ≡ rank (asked p name)
  unfolding rank
  cut-rank = go (dec_le (length name) longest_name)
    where
      go : Dec (length name ≤ longest_name) → rank (asked p (take n name)) ≡ rank (asked p name)
      go (yes h) = ap rank (cut-none h)
      go (no h) = let k : n ≡ 31 = omega arith in rw k (spelled-take 31 p name)

  pub cut-answer : (k : Key) (z : ℤ) → IsShort k → z ≡ compared (asked p (take n name)) k
      → (IsShort (asked p name) → z ≡ compared (asked p name) k) × (z ≡ ranked (rank (asked p name)) (rank k) (pos 0))
  cut-answer k z s h = (
    λ b. h ∙ ap (λ (a : Key). compared a k) (cut-none b),
    h ∙ rank-order _ k cut_short s ∙ ap (λ (r : ℕ). ranked r (rank k) (pos 0)) cut-rank,
  )
