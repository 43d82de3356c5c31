-- The rows of a listing, read from the leaf list, and the fields of a record.
-- Assumes nothing.
use Rattle.std.specs.Prelude.{◌≡◌, ◌↔◌, List, [], ◌∷◌, ℕ, ◌+◌, ◌≤◌, Option, None, option_map, slice_get}
use Rattle.image.specs.Bytes.{be16_at}
use Rattle.btree.specs.Tree.{Rec}
use Rattle.frame.specs.Form.{hfs}
use Rattle.extent_keys.specs.declared.key.Key.{Key}
use Rattle.extent_keys.specs.Key.{key_at}
use Rattle.formats.specs.Format.{record_at, data_at}
use Rattle.extents.specs.Reader.{leaf_list}
use Rattle.listing.specs.declared.LeafRecord.{LeafRecord}

-- a row names its record by node and number; the leaf record has its start too
abbrev pub row_of : Rec → LeafRecord
row_of x = record { node = x.node; number = x.number }

-- "one line per leaf record in leaf order": row k, counted from 0, if there is one
abbrev pub leaf_row : List ℕ → ℕ → Option LeafRecord
leaf_row img k = option_map row_of (slice_get (leaf_list img) k)

-- row k is past the last one just where there are no more than k rows
abbrev pub EndsAt : ℕ → ℕ → Option LeafRecord → Type 0
EndsAt rows k r = (r ≡ None) ↔ (rows ≤ k)

-- the three numbers of a key
abbrev pub key_fields : Key → List ℕ → List ℕ
key_fields k rest = k.file ∷ k.fork ∷ k.start ∷ rest

-- "three pairs of first block and block count"
abbrev pub pairs_at : List ℕ → ℕ → List ℕ
pairs_at img at =
    be16_at img at ∷ be16_at img (at + 2) ∷ be16_at img (at + 4) ∷ be16_at img (at + 6) ∷ be16_at img (at + 8) ∷ be16_at img (at + 10) ∷ []

-- the nine numbers of a line, of record i of the node n
unfoldable pub fields_of : List ℕ → ℕ → ℕ → List ℕ
fields_of img n i = key_fields (key_at hfs img (record_at hfs img n i)) (pairs_at img (data_at hfs img (record_at hfs img n i)))
