-- W-207: "the extents record with the highest key not above (file, fork, block)", in the words of the leaf records.
-- Assumes nothing.
use Rattle.std.specs.Prelude.{◌≡◌, ◌≢◌, ◌↔◌, List, ℕ, ◌+◌, ◌≤◌, pos, length}
use Rattle.btree.specs.declared.Answer.{Answer}
use Rattle.btree.specs.declared.Answer.TheVariants as answer
use Rattle.btree.specs.declared.Place.{Place}
use Rattle.btree.specs.declared.Verdict.{Verdict}
use Rattle.btree.specs.Places.{image_start, image_offset}
use Rattle.btree.specs.Lists.{◌∈◌}
use Rattle.btree.specs.Decide.{cond, if_zero}
use Rattle.btree.specs.Tree.{Rec}
use Rattle.btree.specs.Search.{place_of, floor_of}
use Rattle.frame.specs.Form.{hfs, layout_of}
use Rattle.extent_keys.specs.declared.key.Key.{Key}
use Rattle.extent_keys.specs.Key.{Lawful, dec_lawful, key_at, asked, compared, rank}
use Rattle.extent_data.specs.Data.{extent_data_at}
use Rattle.formats.specs.Format.{record_at}
use Rattle.extents.specs.declared.floors.ExtentRecord.{ExtentRecord}
use Rattle.extents.specs.declared.floors.Floor.{Floor}
use Rattle.extents.specs.declared.floors.Floor.TheVariants as floor
use Rattle.extents.specs.Reader.{view, Sound, verdict, needed, TooFew, checked, leaf_list, data_part}

-- the number and the place that stand for an answer: those of a lookup, as what is left in the working bytes goes by them
abbrev pub floor_reply : Floor → Verdict
floor_reply (floor.At p x) = record { number = 0; place = p }
floor_reply floor.Nowhere = record { number = 12; place = image_start }
floor_reply (floor.Refused number place) = record { number = number; place = place }

-- the key of a record that is handed back
abbrev pub key_in : ExtentRecord → Key
key_in e = asked e.file e.fork e.start

module _ (img : List ℕ) where
  -- the leaf record that starts at a place: its key, and "12 bytes, three pairs of first block and block count"
  unfoldable pub record_of : Place → ExtentRecord
  record_of p =
      record {
        file = (key_at hfs img (image_offset (layout_of hfs) p)).file;
        fork = (key_at hfs img (image_offset (layout_of hfs) p)).fork;
        start = (key_at hfs img (image_offset (layout_of hfs) p)).start;
        extents = extent_data_at img (data_part img p).at;
      }

  abbrev pub floored_as : Answer → Floor
  floored_as (answer.Found p) = floor.At p (record_of p)
  floored_as (answer.Absent n) = floor.Nowhere
  floored_as (answer.Refused number place) = floor.Refused number place

  -- as a lookup does: first the fork byte, then the whole check, and then the descent
  unfoldable pub floored : Key → ℕ → Floor
  floored k lent =
      cond (dec_lawful k.fork)
      (if_zero (checked img lent).number (floored_as (floor_of (view img) (rank k))) (floor.Refused (checked img lent).number (checked img lent).place))
      (floor.Refused 11 image_start)

  -- the key that a leaf record has in the image
  abbrev pub key_of : Rec → Key
  key_of x = key_at hfs img (record_at hfs img x.node x.number)

  -- "the highest key not above": a comparison that does not answer 1
  abbrev pub NotAbove : Key → Key → Type 0
  NotAbove a b = compared a b ≢ pos 1

  -- of all leaf records x has the highest key not above k
  pub record IsFloor (k : Key) (x : Rec) : Type 0 where
    pub listed : x ∈ leaf_list img
    pub not_above : NotAbove (key_of x) k
    pub highest : (y : Rec) → y ∈ leaf_list img → NotAbove (key_of y) k → NotAbove (key_of y) (key_of x)

  -- of a sound image and a key with a lawful fork byte
  pub record SoundFloor (k : Key) (r : Floor) : Type 0 where
    -- that record, exactly when there is one, by its start, with its key and its data
    pub at : (p : Place) (e : ExtentRecord) → (r ≡ floor.At p e) ↔ ((x : Rec) × (IsFloor k x) × (place_of x ≡ p) × (record_of p ≡ e))
    pub is_key : (x : Rec) → x ∈ leaf_list img → key_in (record_of (place_of x)) ≡ key_of x
    -- and there is no other
    pub once : (x y : Rec) → IsFloor k x → IsFloor k y → x ≡ y
    -- none exactly when every leaf record's key is above k
    pub nowhere : (r ≡ floor.Nowhere) ↔ ((x : Rec) → x ∈ leaf_list img → NotAbove (key_of x) k → ⊥)
    -- the image has its 12 bytes
    pub inside : (p : Place) (e : ExtentRecord) → r ≡ floor.At p e → (data_part img p).at + 12 ≤ length img

  -- what is said of any image and any key where so many bytes are lent: as a lookup is refused
  pub record FloorSays (k : Key) (lent : ℕ) (r : Floor) : Type 0 where
    pub of_sound : Sound img → Lawful k.fork → needed img ≤ lent → SoundFloor k r
    pub of_unlawful : (Lawful k.fork → ⊥) → r ≡ floor.Refused 11 image_start
    pub of_few : Lawful k.fork → TooFew img lent → r ≡ floor.Refused 16 image_start
    pub of_unsound : Lawful k.fork → (TooFew img lent → ⊥) → (Sound img → ⊥) → r ≡ floor.Refused (verdict img).number (verdict img).place
    pub of_enough : needed img ≤ lent → (floor_reply r).number ≢ 16
