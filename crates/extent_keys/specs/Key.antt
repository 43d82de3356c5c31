-- The key of an extents record, its order, and its packed number.
-- Assumes nothing.
use Rattle.std.specs.Prelude.{◌≡◌, ◌⊎◌, List, ℕ, ◌+◌, ◌*◌, ◌/◌, ◌%◌, ◌<◌, ℤ, pos, negsuc, get_or}
use Rattle.std.specs.declared.cmp.Ordering.{Ordering}
use Rattle.std.specs.Ordering.{match_ordering}
use Rattle.std.proofs.Math.Logic.Dec
use Rattle.std.proofs.Math.Decide.{ℕ_discrete, dec_lt}
use Rattle.image.specs.Bytes.{be16_at, be32_at}
use Rattle.btree.specs.Decide.{dec_or}
use Rattle.btree.specs.Ranked.{ranked}
use Rattle.frame.specs.declared.form.Form.{Form}
use Rattle.frame.specs.Form.{by_edition}
use Rattle.extent_keys.specs.declared.key.Key.{Key}
use Rattle.extent_keys.specs.declared.key.SortKey.{SortKey}

-- "The fork bytes 00 and FF are lawful."
abbrev pub Lawful : ℕ → Type 0
Lawful fork = (fork ≡ 0) ⊎ (fork ≡ 255)

unfoldable pub dec_lawful : (fork : ℕ) → Dec (Lawful fork)
dec_lawful fork = dec_or (ℕ_discrete fork 0) (ℕ_discrete fork 255)

-- "Eight bytes: length 07, fork (00 data, FF resource), file number (4), start block (2)."
abbrev pub hfs_key_at : List ℕ → ℕ → Key
hfs_key_at img at = record { file = be32_at img (at + 2); fork = get_or img (at + 1) 0; start = be16_at img (at + 6) }

-- W-211: "a 12-byte key (length 10 in two bytes ..; fork, pad not judged, file, 32-bit start block)"
abbrev pub plus_key_at : List ℕ → ℕ → Key
plus_key_at img at = record { file = be32_at img (at + 4); fork = get_or img (at + 2) 0; start = be32_at img (at + 8) }

unfoldable pub key_at : Form → List ℕ → ℕ → Key
key_at form img at = by_edition form (hfs_key_at img at) (plus_key_at img at)

-- "Lookup and salvage are asked by three numbers: file number, fork byte and start block; no length byte is given."
abbrev pub asked : ℕ → ℕ → ℕ → Key
asked file fork start = record { file = file; fork = fork; start = start }

-- "Order: file number, then fork as an unsigned byte, then start block. A comparison answers .. -1, 0 or 1."
unfoldable pub compared : Key → Key → ℤ
compared a b = ranked a.file b.file (ranked a.fork b.fork (ranked a.start b.start (pos 0)))

-- the number that an answer stands for
abbrev pub number : Ordering → ℤ
number o = match_ordering o (negsuc 0) (pos 0) (pos 1)

-- a key of either edition as one number, in whose order keys are: file number, fork byte, and four bytes for the start block
unfoldable pub rank : Key → ℕ
rank k = (k.file * 256 + k.fork) * 4294967296 + k.start

-- the same of a key as the code compares it
unfoldable pub rank_of : SortKey → ℕ
rank_of s = s.owner * 4294967296 + s.start

-- "Packed, a key is file number x 16,777,216 + fork x 65,536 + start block"; W-211: "packed keys stay with HFS"
unfoldable pub packed : Key → ℕ
packed k = k.file * 16777216 + k.fork * 65536 + k.start

-- the start block of an HFS key has two bytes
abbrev pub IsShort : Key → Type 0
IsShort k = k.start < 65536

-- the key that a packed number stands for
abbrev pub unpacked : ℕ → Key
unpacked number = record { file = number / 16777216; fork = number / 65536 % 256; start = number % 65536 }

-- 2 to the 56
abbrev pub key_limit : ℕ
key_limit = 72057594037927936

-- W-203: a packed number that is not "a key whose fork byte is wrong or which is 2 to the 56 or more"
abbrev pub IsKey : ℕ → Type 0
IsKey number = (number < key_limit) × Lawful (unpacked number).fork

unfoldable pub dec_key : (number : ℕ) → Dec (IsKey number)
dec_key number = Dec.and (dec_lt number key_limit) (dec_lawful (unpacked number).fork)
