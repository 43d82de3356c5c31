-- The bytes of an image from one on, and a key that stands there.
-- Assumes nothing.
use mathlib.Core.Path.{◌≡◌, refl, ap}
use mathlib.Core.List.{List, ◌∷◌}
use Prim.Native.Nat.{ℕ, zero, suc, ◌+◌, ◌≤◌, ◌<◌, min}
use native.Mathlib.Omega.{arith}
use native.Mathlib.Nat.{add-suc}
use lib.IntN.{ℤ}
use lib.ListN.{length, get_or, take, drop}
use lib.Seq.{drop-cons}
use Rattle.image.specs.Bytes.{be32_at}
use Rattle.image.proofs.Laws.{be32-copied}
use Rattle.catalog_keys.specs.Key.{Key, longest_name, IsShort, bytes_at, key_at, asked, compared}

pub bytes-length : (img : List ℕ) (at n : ℕ) → length (bytes_at img at n) ≡ n
unfolding bytes_at
bytes-length img at zero = refl
bytes-length img at (suc n) = ap suc (bytes-length img (suc at) n)

-- no name is longer than 31 bytes
pub key-short : (img : List ℕ) (at : ℕ) → IsShort (key_at img at)
unfolding key_at
key-short img at = let e = bytes-length img (at + 7) (min longest_name (get_or img (at + 6) 0)) in omega arith

-- a key of its parts
pub key-parts : (img : List ℕ) (at parent : ℕ) (name : List ℕ) → parent ≡ be32_at img (at + 2) → name ≡ (key_at img at).name → asked parent name ≡ key_at img at
unfolding key_at
key-parts img at parent name p n = rw (p, n)

-- the keys are what they are called by
pub compared-as : (a b x y : Key) (z : ℤ) → z ≡ compared a b → a ≡ x → b ≡ y → z ≡ compared x y
compared-as a b x y z e p q = rw (← p, ← q) e

-- bytes that the image has are a part of it
pub bytes-part : (img : List ℕ) (at n : ℕ) → at + n ≤ length img → take n (drop at img) ≡ bytes_at img at n
unfolding bytes_at
bytes-part img at zero h = refl
bytes-part img at (suc n) h = rw (drop-cons img at 0 (omega arith)) (ap (λ (r : List ℕ). get_or img at 0 ∷ r) (bytes-part img (suc at) n (omega arith)))

-- a key stays the same where as many bytes are copied as the longest key has
module _ (bytes img : List ℕ) (at : ℕ) (same : (k : ℕ) → k < 38 → get_or bytes k 0 ≡ get_or img (at + k) 0) where
  bytes-copied : (i n : ℕ) → i + n ≤ 38 → bytes_at bytes i n ≡ bytes_at img (at + i) n
  unfolding bytes_at
  bytes-copied i zero h = refl
  bytes-copied i (suc n) h = rw (same i (omega arith), bytes-copied (suc i) n (omega arith), add-suc at i)

  pub key-copied : key_at bytes 0 ≡ key_at img at
  unfolding key_at
  key-copied =
      rw (
        be32-copied bytes img at 38 same 2 (omega arith),
        same 6 (omega arith),
        bytes-copied 7 (min longest_name (get_or img (at + 6) 0)) (omega arith),
      )
