-- The key at a byte of an HFS image, by its eight bytes as one number and by its packed number.
-- Assumes nothing.
use mathlib.Core.Path.{◌≡◌, sym, ap, subst, ◌∙◌}
use mathlib.Core.Logic.{inl, inr}
use mathlib.Core.List.{List}
use Prim.Native.Nat.{ℕ, ◌+◌, ◌*◌, ◌/◌, ◌%◌, ◌<◌}
use native.Mathlib.Decide.{ℕ_discrete, dec_lt}
use native.Mathlib.Omega.{arith}
use lib.Bits.{bit_or, or_add_and, and_le_l, and_le_r, or_mod, or_shr}
use lib.ListN.{get_or}
use Rattle.image.specs.Bytes.{be16_at, be32_at, be64_at}
use Rattle.extent_keys.specs.Key.{Lawful, hfs_key_at, rank, packed}
use Rattle.image.proofs.Words.{Bytes, word_small, two-words}
use Rattle.fast_records.specs.Keyed.{turn, packed_at, Clean, LawfulKey, LawAt}

-- four words as one number, in parts
module _ (w x y z : ℕ) (p : x < 65536) (q : y < 65536) (r : z < 65536) where
  high : (w * 281474976710656 + x * 4294967296 + y * 65536 + z) / 281474976710656 ≡ w
  high = omega arith

  rest : (w * 281474976710656 + x * 4294967296 + y * 65536 + z) % 281474976710656 ≡ x * 4294967296 + y * 65536 + z
  rest = omega arith

  middle : (x * 4294967296 + y * 65536 + z) / 65536 ≡ x * 65536 + y
  middle = omega arith

  low : (x * 4294967296 + y * 65536 + z) % 65536 ≡ z
  low = omega arith

  turn-words : turn (w * 281474976710656 + x * 4294967296 + y * 65536 + z) ≡ (x * 65536 + y) * 4294967296 + (z * 256 + w / 256 + w % 256 * 16777216)
  unfolding turn
  turn-words = rw (high, rest, middle, low)

module _ (img : List ℕ) where
  module _ (b : Bytes img) where
    first : (at : ℕ) → be16_at img at / 256 ≡ get_or img at 0
    unfolding be16_at
    first at = let y = b (at + 1) in omega arith

    second : (at : ℕ) → be16_at img at % 256 ≡ get_or img (at + 1) 0
    unfolding be16_at
    second at = let y = b (at + 1) in omega arith

    -- the eight bytes of a key, turned, are its packed number and its length
    pub turn-key : (at : ℕ) → turn (be64_at img at) ≡ packed_at img at * 256 + get_or img at 0
    unfolding be64_at packed
    turn-key at =
        turn-words (be16_at img at) (be16_at img (at + 2)) (be16_at img (at + 4)) (be16_at img (at + 6)) (word_small img b (at + 2)) (word_small img b (at + 4)) (word_small img b (at + 6))
        ∙ (let e : at + 2 + 2 ≡ at + 4 = omega arith in
        let f = rw e at (two-words img (at + 2)) in
        rw (f, first at, second at) (omega arith))

    -- the order of packed numbers is that of keys
    pub packed-below : (a c : ℕ) → packed_at img a < packed_at img c → rank (hfs_key_at img a) < rank (hfs_key_at img c)
    unfolding packed rank
    packed-below a c h = go (dec_lt (be32_at img (a + 2) * 256 + get_or img (a + 1) 0) (be32_at img (c + 2) * 256 + get_or img (c + 1) 0))
      where
        go : Dec (be32_at img (a + 2) * 256 + get_or img (a + 1) 0 < be32_at img (c + 2) * 256 + get_or img (c + 1) 0)
            → (be32_at img (a + 2) * 256 + get_or img (a + 1) 0) * 4294967296 + be16_at img (a + 6) < (be32_at img (c + 2) * 256 + get_or img (c + 1) 0) * 4294967296 + be16_at img (c + 6)
        go (yes l) = let s = word_small img b (a + 6) in omega arith
        go (no n) = let s = word_small img b (a + 6) in let t = word_small img b (c + 6) in omega arith

    -- keys of the same eight bytes are the same
    pub raw_same : (a c : ℕ) → be64_at img a ≡ be64_at img c → rank (hfs_key_at img a) ≡ rank (hfs_key_at img c)
    unfolding packed rank
    raw_same a c e =
        let f = turn-key a in
        let g = turn-key c in
        let x = b a in
        let y = b c in
        let s = word_small img b (a + 6) in
        let t = word_small img b (c + 6) in
        let u = b (a + 1) in
        let v = b (c + 1) in
        let h = rw e at f in
        omega arith

    -- the length and the fork byte of a turned key are its own
    pub law-of : (at k : ℕ) → k ≡ packed_at img at * 256 + get_or img at 0 → LawfulKey k → LawAt img at
    unfolding packed
    law-of at k e (l, f) = record { length = long; fork = subst Lawful forked f }
      where
        long : get_or img at 0 ≡ 7
        long = let x = b at in omega arith

        forked : k / 16777216 % 256 ≡ get_or img (at + 1) 0
        forked = let x = b at in let y = b (at + 1) in let z = word_small img b (at + 6) in let s = parted in rw (e, s) (omega arith)
          where
            parted : (be32_at img (at + 2) * 16777216 + get_or img (at + 1) 0 * 65536 + be16_at img (at + 6)) * 256 + get_or img at 0
                ≡ (be32_at img (at + 2) * 256 + get_or img (at + 1) 0) * 16777216 + (be16_at img (at + 6) * 256 + get_or img at 0)
            parted = omega arith

-- one comparison for the lengths of all keys, and for their fork bytes
module _ (k : ℕ) where
  length-of : (k % 4294967296 + 16777209) % 256 ≡ 0 → k % 256 ≡ 7
  length-of h = omega arith

  fork-half : k / 16777216 % 256 ≡ k % 4294967296 / 16777216
  fork-half = omega arith

  forks : (m : ℕ) → m < 4294967296 → m % 256 ≡ 7 → (m + 16777209) / 33554432 % 128 ≡ 0 → Lawful (m / 16777216)
  forks m l e h = go (ℕ_discrete (m / 16777216) 0)
    where
      go : Dec (m / 16777216 ≡ 0) → Lawful (m / 16777216)
      go (yes z) = inl z
      go (no n) = inr (omega arith)

  lawful-key : Clean (k % 4294967296 + 16777209) → LawfulKey k
  lawful-key (h, l) =
      let e = length-of h in
      let m : k % 4294967296 % 256 ≡ 7 = omega arith in
      (e, rw fork-half (forks (k % 4294967296) (omega arith) m l))

-- nothing is in a bit of either number where nothing is in that of both
or-none : (a b : ℕ) → bit_or a b ≡ 0 → (a ≡ 0) × (b ≡ 0)
or-none a b e = let s = or_add_and a b in let t = and_le_l a b in let u = and_le_r a b in (omega arith, omega arith)

or-low : (a b : ℕ) → bit_or a b % 256 ≡ 0 → (a % 256 ≡ 0) × (b % 256 ≡ 0)
or-low a b e = or-none (a % 256) (b % 256) (sym (or_mod a b 8) ∙ e)

or-high : (a b : ℕ) → bit_or a b / 33554432 % 128 ≡ 0 → (a / 33554432 % 128 ≡ 0) × (b / 33554432 % 128 ≡ 0)
or-high a b e = or-none (a / 33554432 % 128) (b / 33554432 % 128) (sym (or_mod (a / 33554432) (b / 33554432) 7) ∙ ap (λ (x : ℕ). x % 128) (sym (or_shr a b 25)) ∙ e)

pub noted-clean : (notes k : ℕ) → Clean (bit_or notes (k % 4294967296 + 16777209)) → Clean notes × LawfulKey k
noted-clean notes k (l, h) = let a = or-low notes _ l in let b = or-high notes _ h in ((a.0, b.0), lawful-key k (a.1, b.1))
