-- What is said of an image of an HFS volume's extents overflow file: the words of every form, for this one.
-- Assumes nothing.
use Rattle.std.specs.Prelude.{List, ℕ}
use Rattle.btree.specs.declared.Place.{Place}
use Rattle.btree.specs.declared.Verdict.{Verdict}
use Rattle.btree.specs.declared.Answer.{Answer}
use Rattle.btree.specs.declared.Lookup.{Lookup}
use Rattle.btree.specs.declared.Salvage.{Salvage}
use Rattle.btree.specs.Tree.{Rec, View}
use Rattle.frame.specs.Form.{hfs}
use Rattle.extent_keys.specs.declared.key.Key.{Key}
use Rattle.formats.specs.Format as format
use Rattle.reader.specs.Reader as reader
use Rattle.editions.specs.Asked.{of_key}

abbrev pub view : List ℕ → View
view img = format.view hfs img

abbrev pub Sound : List ℕ → Type 0
Sound img = reader.Sound hfs img

-- the first fault in the order of tests, as a number of the table and its place
abbrev pub verdict : List ℕ → Verdict
verdict img = reader.verdict hfs img

-- W-206: "one bit a node": the working bytes that the nodes of an image need
abbrev pub needed : List ℕ → ℕ
needed img = reader.needed hfs img

-- "Fewer than the nodes need", of an image whose length is right
abbrev pub TooFew : List ℕ → ℕ → Type 0
TooFew img lent = reader.TooFew hfs img lent

-- what a check answers where so many bytes are lent: 16 where they are too few, and else the verdict
abbrev pub checked : List ℕ → ℕ → Verdict
checked img lent = reader.checked hfs img lent

abbrev pub CheckSays : List ℕ → ℕ → Verdict → Type 0
CheckSays img lent r = reader.CheckSays hfs img lent r

-- what a call whose answer has this number leaves in the bytes lent to it
abbrev pub Leaves : List ℕ → ℕ → List ℕ → List ℕ → Type 0
Leaves img number entry exit = reader.Leaves hfs img number entry exit

abbrev pub leaf_list : List ℕ → List Rec
leaf_list img = reader.leaf_list hfs img

abbrev pub search_path : List ℕ → Key → List ℕ
search_path img k = reader.search_path hfs img (of_key hfs k)

abbrev pub looked_up : List ℕ → Key → ℕ → Lookup
looked_up img k lent = reader.looked_up hfs img (of_key hfs k) lent

-- "Found hands back the 12 data bytes as a part of the image; every other answer hands back the empty part at its start."
abbrev pub data_part : List ℕ → Place → reader.Part
data_part img p = reader.data_part hfs img p

abbrev pub found_part : List ℕ → Answer → reader.Part
found_part img a = reader.found_part hfs img a

abbrev pub salvaged : List ℕ → Key → Salvage
salvaged img k = reader.salvaged hfs img (of_key hfs k)

-- "The first match is seen, data as a part of the image."
abbrev pub seen_part : List ℕ → Salvage → reader.Part
seen_part img s = reader.seen_part hfs img s
