-- Eight bytes as one number: where two such numbers are the same, so are the bytes, and no bit of them is wrong.
-- Assumes nothing.
use mathlib.Core.Path.{◌≡◌, ◌∙◌}
use mathlib.Core.List.{List}
use Prim.Native.Nat.{ℕ, zero, suc, ◌+◌, ◌*◌, ◌≤◌, ◌<◌}
use native.Mathlib.Numerals.{add-one}
use native.Mathlib.Decide.{dec_lt}
use native.Mathlib.Omega.{arith}
use lib.ListN.{length, get_or, drop}
use Rattle.image.specs.Bit.{bit_of}
use Rattle.image.specs.Bytes.{be16_at, be64_at}
use Rattle.image.proofs.Laws.{be16-beyond}
use Rattle.image.proofs.Words.{Bytes, word_small, four_same}
use Rattle.btree.specs.Tests.{lowest_wrong}
use Rattle.map.proofs.Bits.{byte_more, same_byte}

pub eight-beyond : (bs : List ℕ) (at : ℕ) → length bs ≤ at → be64_at bs at ≡ 0
unfolding be64_at
eight-beyond bs at h =
    rw (be16-beyond bs at h, be16-beyond bs (at + 2) (omega arith), be16-beyond bs (at + 4) (omega arith), be16-beyond bs (at + 6) (omega arith))

-- byte j of a map record whose first byte is byte `first` of the map
module _ (xs ys : List ℕ) (first : ℕ) where
  abbrev pub SameAt : ℕ → Type 0
  SameAt j = get_or xs j 0 ≡ get_or ys (first + j) 0

  module _ (bx : Bytes xs) (by : Bytes ys) where
    -- the word at i, on from byte a by d
    word_same : (i a d : ℕ) → i ≡ a + d → be16_at xs i ≡ be16_at ys (first + a + d) → (j : ℕ) → i ≤ j → j < i + 2 → SameAt j
    unfolding be16_at
    word_same i a d p e j l u = go (dec_lt i j)
      where
        go : Dec (i < j) → SameAt j
        go (no n) =
            let q : j ≡ i = omega arith in
            let z : first + i ≡ first + a + d = omega arith in
            let x = bx (i + 1) in
            let y = by (first + a + d + 1) in
            rw (q, z) (omega arith)
        go (yes n) =
            let q : j ≡ i + 1 = omega arith in
            let z : first + (i + 1) ≡ first + a + d + 1 = omega arith in
            let x = bx (i + 1) in
            let y = by (first + a + d + 1) in
            rw (q, z) (omega arith)

    eight-same : (i : ℕ) → be64_at xs i ≡ be64_at ys (first + i) → (j : ℕ) → i ≤ j → j < i + 8 → SameAt j
    unfolding be64_at
    eight-same i e j l u = go (dec_lt j (i + 2)) (dec_lt j (i + 4)) (dec_lt j (i + 6))
      where
        k : ℕ
        k = first + i

        four : (be16_at xs i ≡ be16_at ys k) × (be16_at xs (i + 2) ≡ be16_at ys (k + 2)) × (be16_at xs (i + 4) ≡ be16_at ys (k + 4)) × (be16_at xs (i + 6) ≡ be16_at ys (k + 6))
        four =
            four_same _ _ _ _ _ _ _ _
            (word_small xs bx (i + 2)) (word_small xs bx (i + 4)) (word_small xs bx (i + 6))
            (word_small ys by (k + 2)) (word_small ys by (k + 4)) (word_small ys by (k + 6)) e

        go : Dec (j < i + 2) → Dec (j < i + 4) → Dec (j < i + 6) → SameAt j
        go (yes a) b c = let z : first + i + 0 ≡ first + i = omega arith in word_same i i 0 (omega arith) (rw z four.0) j l a
        go (no a) (yes b) c = word_same (i + 2) i 2 (omega arith) four.1 j (omega arith) (omega arith)
        go (no a) (no b) (yes c) = word_same (i + 4) i 4 (omega arith) four.2 j (omega arith) (omega arith)
        go (no a) (no b) (no c) = word_same (i + 6) i 6 (omega arith) four.3 j (omega arith) (omega arith)

    -- the bytes before i, and the eight from it on
    pub eight-more : (i : ℕ) → ((j : ℕ) → j < i → SameAt j) → be64_at xs i ≡ be64_at ys (first + i) → (j : ℕ) → j < i + 8 → SameAt j
    eight-more i h e j u = go (dec_lt j i)
      where
        go : Dec (j < i) → SameAt j
        go (yes l) = h j l
        go (no n) = eight-same i e j (omega arith) u

  -- the search goes on after bytes that are the same
  pub after_same : (i : ℕ) → i ≤ length xs → ((j : ℕ) → j < i → SameAt j) → lowest_wrong (bit_of ys) (8 * first) xs ≡ lowest_wrong (bit_of ys) (8 * (first + i)) (drop i xs)
  after_same zero l h = let e : first + 0 ≡ first = omega arith in rw e
  after_same (suc i) l h =
      after_same i (omega arith) (λ j u. h j (omega arith)) ∙ byte_more (bit_of ys) first xs i (omega arith)
      ∙ same_byte ys (first + i) (get_or xs i 0) _ (h i (omega arith)) ∙ rw (add-one i)
