-- W-203: what a row of packed keys comes to, once the image has been checked. W-211: "packed keys stay with HFS"
-- Assumes nothing.
use Rattle.std.specs.Prelude.{◌≡◌, List, ◌++◌, map, ℕ, ◌<◌, length, drop}
use Rattle.btree.specs.declared.Answer.{Answer}
use Rattle.btree.specs.declared.Answer.TheVariants.{Found, Absent, Refused}
use Rattle.btree.specs.declared.Place.{Place}
use Rattle.btree.specs.Places.{image_offset}
use Rattle.btree.specs.Decide.{cond}
use Rattle.btree.specs.Search.{answer_of}
use Rattle.frame.specs.Form.{hfs, layout_of}
use Rattle.extent_keys.specs.Key.{rank, unpacked, dec_key}
use Rattle.formats.specs.Format.{data_at, view}
use Rattle.search.specs.Descent.{Searchable}

-- the answer of a lookup as a result: "the byte place of the 12 data bytes, 0 for absent, 1 for a key whose fork byte is wrong", which is the one refusal
-- left once the image has been checked
abbrev pub result_of : List ℕ → Answer → ℕ
result_of img (Found p) = data_at hfs img (image_offset (layout_of hfs) p)
result_of img (Absent n) = 0
result_of img (Refused number place) = 1

-- the result of a packed number in an image that has been checked
unfoldable pub result_in : List ℕ → ℕ → ℕ
result_in img number = cond (dec_key number) (result_of img (answer_of (view hfs img) (rank (unpacked number)))) 1

-- "one result for each key"; "Places beyond the keys stay."
abbrev pub filled : (ℕ → ℕ) → List ℕ → List ℕ → List ℕ
filled result keys results = map result keys ++ drop (length keys) results

-- an image whose tree can be searched, and of which every place of data fits 32 bits
pub record Placeable (img : List ℕ) : Type 0 where
  pub searchable : Searchable hfs img
  pub small : (k : ℕ) (p : Place) → answer_of (view hfs img) k ≡ Found p → data_at hfs img (image_offset (layout_of hfs) p) < 4294967296
