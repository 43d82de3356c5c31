-- The key of a catalog record, its order, and its rank.
-- Assumes nothing.
use Rattle.std.specs.Prelude.{List, [], ◌∷◌, ℕ, zero, suc, ◌+◌, ◌*◌, ◌≤◌, min, ℤ, pos, negsuc, length, get_or}
use Rattle.std.specs.declared.cmp.Ordering.{Ordering}
use Rattle.std.specs.Ordering.{match_ordering}
use Rattle.image.specs.Bytes.{be32_at}
use Rattle.btree.specs.Ranked.{ranked}
use Rattle.catalog_keys.specs.Weights.{weight}

-- "parent number, name length and name of up to 31 bytes"
pub record Key : Type 0 where
  pub parent : ℕ
  pub name : List ℕ

-- "name of up to 31 bytes"
abbrev pub longest_name : ℕ
longest_name = 31

abbrev pub IsShort : Key → Type 0
IsShort k = length k.name ≤ longest_name

-- n bytes of an image from this one on; past its end all is 0
unfoldable pub bytes_at : List ℕ → ℕ → ℕ → List ℕ
bytes_at img at zero = []
bytes_at img at (suc n) = get_or img at 0 ∷ bytes_at img (suc at) n

-- a key with a name length above 31 is refused (5), and no more than 31 bytes of its name are read
abbrev pub name_at : List ℕ → ℕ → List ℕ
name_at img at = bytes_at img (at + 7) (min longest_name (get_or img (at + 6) 0))

-- "key of length byte, reserved byte, parent number, name length and name"
unfoldable pub key_at : List ℕ → ℕ → Key
key_at img at = record { parent = be32_at img (at + 2); name = name_at img at }

-- a key that is asked for
abbrev pub asked : ℕ → List ℕ → Key
asked parent name = record { parent = parent; name = name }

-- "name by the HFS character order ..; a name that begins another is below it"
unfoldable pub names : List ℕ → List ℕ → ℤ
names [] [] = pos 0
names [] (y ∷ ys) = negsuc 0
names (x ∷ xs) [] = pos 1
names (x ∷ xs) (y ∷ ys) = ranked (weight x) (weight y) (names xs ys)

-- "Keys compare by parent, then name"; "A comparison answers .. -1, 0 or 1."
unfoldable pub compared : Key → Key → ℤ
compared a b = ranked a.parent b.parent (names a.name b.name)

-- the number that an answer stands for
abbrev pub number : Ordering → ℤ
number o = match_ordering o (negsuc 0) (pos 0) (pos 1)

-- the weights of a name: "keys that weigh the same are the same key"
unfoldable pub weigh : List ℕ → List ℕ
weigh [] = []
weigh (x ∷ xs) = weight x ∷ weigh xs

-- digit i of a name: one more than the byte's weight, and 0 past the name's end
unfoldable pub digit : List ℕ → ℕ → ℕ
digit [] i = 0
digit (x ∷ xs) zero = suc (weight x)
digit (x ∷ xs) (suc i) = digit xs i

-- a number, and then n digits of base 257
unfoldable pub spelled : ℕ → (ℕ → ℕ) → ℕ → ℕ
spelled p f zero = p
spelled p f (suc n) = spelled p f n * 257 + f n

-- a key as one number, in whose order keys are: the parent number, and then the name as 31 digits
unfoldable pub rank : Key → ℕ
rank k = spelled k.parent (digit k.name) longest_name
