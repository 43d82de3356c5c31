-- Four offset words as one number.
-- Assumes nothing.
use mathlib.Core.Path.{◌≡◌, ◌∙◌}
use mathlib.Core.List.{List}
use Prim.Native.Nat.{ℕ, ◌+◌, ◌-◌, ◌*◌, ◌≤◌, ◌<◌}
use native.Mathlib.Decide.{ℕ_discrete, dec_lt}
use native.Mathlib.Omega.{arith}
use Rattle.image.specs.Bytes.{be16_at, be32_at, be64_at}
use Rattle.image.proofs.Words.{Bytes, word_small, two-words, two-same, four_same}

-- two words as one number
pub two-right : (img : List ℕ) → Bytes img → (at h l : ℕ) → l < 65536 → be32_at img at ≡ h * 65536 + l → (be16_at img at ≡ h) × (be16_at img (at + 2) ≡ l)
two-right img b at h l s e = two-same (be16_at img at) (be16_at img (at + 2)) h l (word_small img b (at + 2)) s (two-words img at ∙ e)

-- numbers that rise by s from p, as the words that one number has
module _ (a b c d p s : ℕ) (hb : b < 65536) (hc : c < 65536) (hd : d < 65536) (hp : p + 3 * s < 65536) where
  four-words : a * 281474976710656 + b * 4294967296 + c * 65536 + d ≡ p * 281479271743489 + s * 844433520132096 → (a ≡ p + 3 * s) × (b ≡ p + 2 * s) × (c ≡ p + s) × (d ≡ p)
  four-words e =
      four_same a b c d (p + 3 * s) (p + 2 * s) (p + s) p hb hc hd (omega (arith, hp)) (omega (arith, hp)) (omega (arith, hp)) (omega (arith, e))

module _ (img : List ℕ) (bs : Bytes img) (end size i want : ℕ) (room : 2 * i + 6 ≤ end) (w : want ≡ 14 + i * size) (few : want + 3 * size < 65536) where
  pub four-right : be64_at img (end - 6 - 2 * i) ≡ want * 281479271743489 + size * 844433520132096
      → (j : ℕ) → i ≤ j → j < i + 4 → be16_at img (end - 2 * j) ≡ 14 + j * size
  unfolding be64_at
  four-right e j l u = go (ℕ_discrete j i) (ℕ_discrete j (i + 1)) (ℕ_discrete j (i + 1 + 1))
    where
      at : ℕ
      at = end - 6 - 2 * i

      four : (be16_at img at ≡ want + 3 * size) × (be16_at img (at + 2) ≡ want + 2 * size) × (be16_at img (at + 4) ≡ want + size) × (be16_at img (at + 6) ≡ want)
      four = four-words _ _ _ _ want size (word_small img bs (at + 2)) (word_small img bs (at + 4)) (word_small img bs (at + 6)) few e

      go : Dec (j ≡ i) → Dec (j ≡ i + 1) → Dec (j ≡ i + 1 + 1) → be16_at img (end - 2 * j) ≡ 14 + j * size
      go (yes q) b c = let z : end - 6 - 2 * i + 6 ≡ end - 2 * i = omega arith in let f = rw z at four.3 in rw q (f ∙ w)
      go (no a) (yes q) c =
          let z : end - 6 - 2 * i + 4 ≡ end - 2 * (i + 1) = omega arith in
          let f = rw z at four.2 in
          rw q (omega arith)
      go (no a) (no b) (yes q) =
          let z : end - 6 - 2 * i + 2 ≡ end - 2 * (i + 1 + 1) = omega arith in
          let f = rw z at four.1 in
          rw q (omega arith)
      go (no a) (no b) (no c) =
          let q : j ≡ i + 1 + 1 + 1 = omega arith in
          let z : end - 6 - 2 * i ≡ end - 2 * (i + 1 + 1 + 1) = omega arith in
          let f = rw z at four.0 in
          rw q (omega arith)

-- the words before i, and those of i and the three after it
pub words_more : (P : ℕ → Type 0) (i : ℕ) → ((j : ℕ) → j < i → P j) → ((j : ℕ) → i ≤ j → j < i + 4 → P j) → (j : ℕ) → j < i + 4 → P j
words_more P i a b j l = go (dec_lt j i)
  where
    go : Dec (j < i) → P j
    go (yes h) = a j h
    go (no n) = b j (omega arith) l
