-- The bytes of a catalog's records, field by field; what has no name here is zero.
-- Assumes nothing.
use Rattle.std.specs.Prelude.{List, [], ◌∷◌, ◌++◌, ℕ, zero, suc, ◌+◌, ◌-◌, ◌%◌, length, replicate}
use Prim.Native.Char.{code}
use Prim.Native.String.{String, [] as empty, ◌∷◌ as ◌then◌}
use Rattle.vectors.specs.Build.{be16, be32}

-- a name's bytes: those of a text whose characters are below 128
abbrev pub bytes : String → List ℕ
bytes empty = []
bytes (c then s) = code c ∷ bytes s

-- "length (1), reserved (1, not judged), parent number (4), name length (1, at most 31), name"
abbrev pub key_of : ℕ → ℕ → List ℕ → List ℕ
key_of key_length parent name = key_length ∷ 0 ∷ be32 parent ++ length name ∷ name

-- "Leaf keys: length is 6 plus the name length."
abbrev pub leaf_key : ℕ → List ℕ → List ℕ
leaf_key parent name = key_of (6 + length name) parent name

-- "padded so that its data start on an even offset of the node", where the record starts on one too
abbrev pad : List ℕ → List ℕ
pad key = key ++ replicate (length key % 2) 0

-- "A leaf record: key, padded .., then data by type"
abbrev pub leaf_record : ℕ → List ℕ → List ℕ → List ℕ
leaf_record parent name entry = pad (leaf_key parent name) ++ entry

-- "Index keys: length 37, so 38 bytes, bytes past the name not judged."; "and the child's number"
abbrev pub index_record : ℕ → List ℕ → ℕ → List ℕ
index_record parent name child = key_of 37 parent name ++ replicate (31 - length name) 0 ++ be32 child

-- "1 directory": "type 0, .. valence 4 (2), directory ID 6 (4)", 70 bytes
abbrev pub directory : ℕ → ℕ → List ℕ
directory id valence = 1 ∷ 0 ∷ be16 0 ++ be16 valence ++ be32 id ++ replicate 60 0

-- "2 file": "type 0, .. file ID 20 (4), data fork: first block 24 (2), logical length 26 (4), physical length 30 (4); .. data fork's first three extents
-- 74 (12)", 102 bytes
abbrev pub file : ℕ → ℕ → ℕ → ℕ → List ℕ → List ℕ
file id first logical physical extents =
    2 ∷ replicate 19 0 ++ be32 id ++ be16 first ++ be32 logical ++ be32 physical ++ replicate 40 0 ++ extents ++ replicate 16 0

-- "3, 4 threads": "type 0, .. parent ID 10 (4), name length 14 (1), name 15 (31)", 46 bytes
abbrev pub thread : ℕ → ℕ → List ℕ → List ℕ
thread type parent name = type ∷ replicate 9 0 ++ be32 parent ++ length name ∷ name ++ replicate (31 - length name) 0

abbrev pub directory_thread : ℕ → List ℕ → List ℕ
directory_thread = thread 3

abbrev pub file_thread : ℕ → List ℕ → List ℕ
file_thread = thread 4

-- the numbers from i on, so many
abbrev counting : ℕ → ℕ → List ℕ
counting i zero = []
counting i (suc n) = i ∷ counting (suc i) n

-- data of a type whose every other byte is its own offset, so that each field has a number of its own
abbrev pub numbered : ℕ → ℕ → List ℕ
numbered type size = type ∷ counting 1 (size - 1)
