-- W-209 in the words of the rules: what an answer says, and what the image written is.
-- Assumes nothing.
use Rattle.std.specs.Prelude.{◌≡◌, ◌≢◌, ◌↔◌, List, ℕ, ◌≤◌, length}
use Rattle.btree.specs.declared.Verdict.{Verdict}
use Rattle.btree.specs.Places.{image_start}
use Rattle.btree.specs.Walk.{fine, fails}
use Rattle.btree.specs.Tree.{tree_nodes}
use Rattle.btree.specs.Header.{map_nodes}
use Rattle.btree.specs.Image.{Lengths}
use Rattle.frame.specs.Form.{hfs, layout_of}
use Rattle.leaf_rows.specs.Row.{RowLaw, leaf_row}
use Rattle.extents.specs.Reader.{view, Sound, needed, checked}

-- a sound image as long as the target, with the row as its leaf records
pub record HoldsRow (row target image : List ℕ) : Type 0 where
  pub sound : Sound image
  pub again : leaf_row image ≡ row
  pub long : length image ≡ length target

-- what the image written is by the rules; its bytes are those of `laid`
pub record IsFresh (row target image : List ℕ) : Type 0 where
  -- "The image written is sound, its leaf records are the row again"
  pub holds : HoldsRow row target image
  -- "and no sound tree with those records has fewer tree nodes"
  pub fewest : (other : List ℕ) → Sound other → leaf_row other ≡ row → length (tree_nodes (view image)) ≤ length (tree_nodes (view other))
  -- "the fewest map nodes the target's size needs": no sound image of that length has fewer
  pub fewest_maps : (other : List ℕ) → Sound other → length other ≡ length target → length (map_nodes (layout_of hfs) image) ≤ length (map_nodes (layout_of hfs) other)
  -- a check right after, lent enough working bytes, answers 0
  pub checks : (lent : ℕ) → needed image ≤ lent → checked image lent ≡ fine

-- what an answer says of any row and any target
pub record WriteSays (row entry exit : List ℕ) (r : Verdict) : Type 0 where
  -- "target length by 1", and 1 says nothing else
  pub of_length : (r ≡ fails 1 image_start) ↔ (Lengths (layout_of hfs) entry → ⊥)
  -- "a row not of whole records, or with a wrong length or fork byte or keys out of order, 19", where the length is right
  pub of_row : (r ≡ fails 19 image_start) ↔ (Lengths (layout_of hfs) entry × (RowLaw row → ⊥))
  -- "more nodes wanted than the target has, 20": where length and row are right, exactly where no sound image of that length has the row as its leaf records
  pub of_room : (r ≡ fails 20 image_start) ↔ (Lengths (layout_of hfs) entry × RowLaw row × ((image : List ℕ) → HoldsRow row entry image → ⊥))
  -- 0 exactly where one has
  pub of_fit : (r ≡ fine) ↔ (Lengths (layout_of hfs) entry × RowLaw row × ((image : List ℕ) × HoldsRow row entry image))
  -- "target untouched"
  pub untouched : r.number ≢ 0 → exit ≡ entry
  pub fresh : r.number ≡ 0 → IsFresh row entry exit
