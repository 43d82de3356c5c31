-- Words of two bytes, and what numbers of two and of four words say of them.
-- Assumes nothing.
use mathlib.Core.Path.{◌≡◌}
use mathlib.Core.List.{List}
use Prim.Native.Nat.{ℕ, ◌+◌, ◌*◌, ◌<◌}
use native.Mathlib.Omega.{arith}
use lib.ListN.{get_or}
use Rattle.image.specs.Bytes.{be16_at, be32_at}

-- every byte is one
abbrev pub Bytes : List ℕ → Type 0
Bytes bytes = (i : ℕ) → get_or bytes i 0 < 256

pub word_small : (bytes : List ℕ) → Bytes bytes → (at : ℕ) → be16_at bytes at < 65536
unfolding be16_at
word_small bytes b at = let x = b at in let y = b (at + 1) in omega arith

-- four bytes are two words
pub two-words : (bytes : List ℕ) (at : ℕ) → be16_at bytes at * 65536 + be16_at bytes (at + 2) ≡ be32_at bytes at
unfolding be16_at be32_at
two-words bytes at = let e : at + 2 + 1 ≡ at + 3 = omega arith in rw e (omega arith)

-- a number has its words once
pub two-same : (h l k m : ℕ) → l < 65536 → m < 65536 → h * 65536 + l ≡ k * 65536 + m → (h ≡ k) × (l ≡ m)
two-same h l k m a b e = let x : h ≡ k = omega arith in (x, omega arith)

module _ (a b c d p q r s : ℕ) (hb : b < 65536) (hc : c < 65536) (hd : d < 65536) (hq : q < 65536) (hr : r < 65536) (hs : s < 65536) where
  pub four_same : a * 281474976710656 + b * 4294967296 + c * 65536 + d ≡ p * 281474976710656 + q * 4294967296 + r * 65536 + s → (a ≡ p) × (b ≡ q) × (c ≡ r) × (d ≡ s)
  four_same e =
      let f : ((a * 65536 + b) * 65536 + c) * 65536 + d ≡ ((p * 65536 + q) * 65536 + r) * 65536 + s = omega arith in
      let x = two-same ((a * 65536 + b) * 65536 + c) d ((p * 65536 + q) * 65536 + r) s hd hs f in
      let y = two-same (a * 65536 + b) c (p * 65536 + q) r hc hr x.0 in
      let z = two-same a b p q hb hq y.0 in
      (z.0, z.1, y.1, x.1)
