-- The records of an HFS node as the code goes over them in one pass, and what it finds. No public promise mentions it.
-- Assumes nothing.
use Rattle.std.specs.Prelude.{◌≡◌, List, ℕ, suc, ◌+◌, ◌-◌, ◌*◌, ◌/◌, ◌%◌, ◌<◌, get_or}
use Rattle.image.specs.Bytes.{be16_at}
use Rattle.extent_keys.specs.Key.{Lawful, hfs_key_at, packed}

-- the eight bytes of a key, length, fork, file number and start block, turned into the order in which keys are compared: the length comes last
unfoldable pub turn : ℕ → ℕ
turn x =
    x % 281474976710656 / 65536 * 4294967296
    + (x % 281474976710656 % 65536 * 256 + x / 281474976710656 / 256 + x / 281474976710656 % 256 * 16777216)

-- the key at a byte of the image, as a number
abbrev pub packed_at : List ℕ → ℕ → ℕ
packed_at img at = packed (hfs_key_at img at)

-- it has its length, and a lawful fork byte
pub record LawAt (img : List ℕ) (at : ℕ) : Type 0 where
  pub length : get_or img at 0 ≡ 7
  pub fork : Lawful (get_or img (at + 1) 0)

-- what is noted of turned keys has nothing in the bits that a right length and a lawful fork byte leave clear
abbrev pub Clean : ℕ → Type 0
Clean notes = (notes % 256 ≡ 0) × (notes / 33554432 % 128 ≡ 0)

-- the last byte of a turned key is a right length, and its fork byte is lawful
abbrev pub LawfulKey : ℕ → Type 0
LawfulKey key = (key % 256 ≡ 7) × Lawful (key / 16777216 % 256)

-- c keys, the first at this byte and each `step` bytes after the one before, are lawful and ascend to r
pub record Rises (img : List ℕ) (at step c r : ℕ) : Type 0 where
  pub law : (i : ℕ) → i < c → LawAt img (at + i * step)
  pub ascend : (i : ℕ) → suc i < c → packed_at img (at + i * step) < packed_at img (at + suc i * step)
  pub last : r ≡ packed_at img (at + (c - 1) * step)

-- the c records, of this size, of the node that starts at this byte: their offset words with that of the free space, and keys to one below `top`
pub record Keyed (img : List ℕ) (start size c top : ℕ) : Type 0 where
  pub words : (i : ℕ) → i < suc c → be16_at img (start + 510 - 2 * i) ≡ 14 + i * size
  pub law : (i : ℕ) → i < c → LawAt img (start + 14 + i * size)
  pub ascend : (i : ℕ) → suc i < c → packed_at img (start + 14 + i * size) < packed_at img (start + 14 + suc i * size)
  pub under : packed_at img (start + 14 + (c - 1) * size) < top
