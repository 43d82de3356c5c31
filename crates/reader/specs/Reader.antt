-- What is said of an image of a form: whether it is sound, the first fault, its leaf records, what a lookup and what salvage answer.
-- Assumes nothing.
use Rattle.std.specs.Prelude.{Bool, List, ℕ, ◌-◌, ◌*◌, ◌/◌, length}
use Rattle.std.proofs.Math.Decide.{dec_le}
use Rattle.btree.specs.declared.Place.{Place}
use Rattle.btree.specs.declared.Verdict.{Verdict}
use Rattle.btree.specs.declared.Answer.{Answer}
use Rattle.btree.specs.declared.Answer.TheVariants as answer
use Rattle.btree.specs.declared.Lookup.{Lookup}
use Rattle.btree.specs.declared.Salvage.{Salvage}
use Rattle.btree.specs.declared.fault.Fault.{Fault}
use Rattle.btree.specs.Faults.{number_of}
use Rattle.btree.specs.declared.Salvage.TheVariants.{Seen, NotSeen, Refused}
use Rattle.btree.specs.Places.{image_start, image_offset}
use Rattle.btree.specs.Decide.{cond}
use Rattle.btree.specs.Tells.{pick}
use Rattle.btree.specs.Tree.{Rec}
use Rattle.btree.specs.Search as search
use Rattle.btree.specs.Image as image
use Rattle.btree.specs.Tests as tests
use Rattle.btree.specs.Work as work
use Rattle.frame.specs.declared.form.Form.{Form}
use Rattle.frame.specs.Form.{layout_of}
use Rattle.formats.specs.Format.{data_at, data_size_at, format_of, view}
use Rattle.scan.specs.Seen.{seen_from}
use Rattle.reader.specs.Query.{Query}

-- a part of the image: where it starts and how many bytes it has
pub record Part : Type 0 where
  pub at : ℕ
  pub size : ℕ

-- a salvage that is refused
abbrev pub unseen : Fault → Salvage
unseen f = Refused (number_of f.refusal) f.place

abbrev pub empty_part : Part
empty_part = record { at = 0; size = 0 }

module _ (form : Form) where
  abbrev pub Sound : List ℕ → Type 0
  Sound img = image.Sound (layout_of form) img (format_of form)

  -- the first fault in the order of tests, as a number of the table and its place
  abbrev pub verdict : List ℕ → Verdict
  verdict img = tests.verdict (layout_of form) img (format_of form)

  -- W-206: "one bit a node": the working bytes that the nodes of an image need
  abbrev pub needed : List ℕ → ℕ
  needed img = work.needed (layout_of form) img

  -- "Fewer than the nodes need", of an image whose length is right
  abbrev pub TooFew : List ℕ → ℕ → Type 0
  TooFew img lent = work.TooFew (layout_of form) img lent

  -- what a check answers where so many bytes are lent: 16 where they are too few, and else the verdict
  abbrev pub checked : List ℕ → ℕ → Verdict
  checked img lent = work.checked (layout_of form) img (format_of form) lent

  abbrev pub CheckSays : List ℕ → ℕ → Verdict → Type 0
  CheckSays img lent r = work.CheckSays (layout_of form) img (format_of form) lent r

  -- what a call whose answer has this number leaves in the bytes lent to it
  abbrev pub Leaves : List ℕ → ℕ → List ℕ → List ℕ → Type 0
  Leaves img number entry exit = work.Leaves (layout_of form) img (format_of form) number entry exit

  abbrev pub leaf_list : List ℕ → List Rec
  leaf_list img = search.leaf_list (view form img)

  abbrev pub search_path : List ℕ → Query → List ℕ
  search_path img q = search.path_of (view form img) q.rank

  -- W-202: "how many keys it compared so, in all"
  abbrev pub keys_compared : List ℕ → Query → ℕ
  keys_compared img q = search.compared_of (view form img) q.rank

  abbrev pub looked_up : List ℕ → Query → ℕ → Lookup
  looked_up img q lent = search.lookup_of (view form img) (checked img lent) q.dec_lawful q.rank

  -- the same as the code is asked: whether the key may be asked for, and its number
  abbrev pub looked_up_by : List ℕ → Bool → ℕ → ℕ → Lookup
  looked_up_by img lawful rank lent = pick lawful (search.after_check (view form img) rank (checked img lent)) (search.refused 11 image_start)

  -- the data of the leaf record that starts at a place
  abbrev pub data_part : List ℕ → Place → Part
  data_part img p = record { at = data_at form img (image_offset (layout_of form) p); size = data_size_at form img (image_offset (layout_of form) p) }

  -- "Found hands back the 12 data bytes as a part of the image; every other answer hands back the empty part at its start."; W-211: "The part found is 12
  -- bytes in HFS and 64 in HFS Plus."; W-204: "The part is the record's whole data, 70, 102 or 46 bytes."
  abbrev pub found_part : List ℕ → Answer → Part
  found_part img (answer.Found p) = data_part img p
  found_part img (answer.Absent n) = empty_part
  found_part img (answer.Refused number place) = empty_part

  -- "Salvage tests 11, then length: more than 3,072,000 bytes is 1; any other length is taken, and a broken last node is ignored. From node 1 up";
  -- W-211: "The limit is 65,536 times the node size in bytes, for salvage too."
  unfoldable pub salvaged : List ℕ → Query → Salvage
  salvaged img q =
      cond q.dec_lawful
      (cond (dec_le (length img) (65536 * form.size)) (seen_from form img q.rank 1 (length img / form.size - 1)) (Refused 1 image_start))
      (Refused 11 image_start)

  abbrev pub salvaged_by : List ℕ → Bool → ℕ → Salvage
  salvaged_by img lawful rank =
      pick lawful
      (cond (dec_le (length img) (65536 * form.size)) (seen_from form img rank 1 (length img / form.size - 1)) (Refused 1 image_start))
      (Refused 11 image_start)

  -- "The first match is seen, data as a part of the image."
  abbrev pub seen_part : List ℕ → Salvage → Part
  seen_part img (Seen p) = data_part img p
  seen_part img NotSeen = empty_part
  seen_part img (Refused number place) = empty_part
