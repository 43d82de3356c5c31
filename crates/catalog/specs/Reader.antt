-- What is said of an image of an HFS volume's catalog: the words of every form, for this one.
-- Assumes nothing.
use Rattle.std.specs.Prelude.{List, ℕ}
use Rattle.btree.specs.declared.Place.{Place}
use Rattle.btree.specs.declared.Verdict.{Verdict}
use Rattle.btree.specs.Tree.{Rec, View}
use Rattle.btree.specs.Numbers as numbers
use Rattle.frame.specs.Form.{catalog}
use Rattle.catalog_keys.specs.Key.{Key}
use Rattle.formats.specs.Format as format
use Rattle.reader.specs.Reader as reader
use Rattle.catalog.specs.declared.answers.Answer.{Answer}
use Rattle.catalog.specs.declared.answers.Lookup.{Lookup}
use Rattle.catalog.specs.declared.answers.Salvage.{Salvage}
use Rattle.catalog.specs.Asked.{of_key}
use Rattle.catalog.specs.Answers.{answered, seen_as, plain_answer, plain_seen}

abbrev pub view : List ℕ → View
view img = format.view catalog img

abbrev pub Sound : List ℕ → Type 0
Sound img = reader.Sound catalog img

-- the first fault in the order of tests, as a number of the table and its place
abbrev pub verdict : List ℕ → Verdict
verdict img = reader.verdict catalog img

-- W-206: "one bit a node": the working bytes that the nodes of an image need
abbrev pub needed : List ℕ → ℕ
needed img = reader.needed catalog img

-- "Fewer than the nodes need", of an image whose length is right
abbrev pub TooFew : List ℕ → ℕ → Type 0
TooFew img lent = reader.TooFew catalog img lent

-- what a check answers where so many bytes are lent: 16 where they are too few, and else the verdict
abbrev pub checked : List ℕ → ℕ → Verdict
checked img lent = reader.checked catalog img lent

abbrev pub CheckSays : List ℕ → ℕ → Verdict → Type 0
CheckSays img lent r = reader.CheckSays catalog img lent r

-- what a call whose answer has this number leaves in the bytes lent to it
abbrev pub Leaves : List ℕ → ℕ → List ℕ → List ℕ → Type 0
Leaves img number entry exit = reader.Leaves catalog img number entry exit

abbrev pub leaf_list : List ℕ → List Rec
leaf_list img = reader.leaf_list catalog img

abbrev pub search_path : List ℕ → Key → List ℕ
search_path img k = reader.search_path catalog img (of_key k)

abbrev pub looked_up : List ℕ → Key → ℕ → Lookup
looked_up img k lent = answered img (reader.looked_up catalog img (of_key k) lent)

-- the number and the place that stand for an answer
abbrev pub lookup_reply : Answer → Verdict
lookup_reply a = numbers.lookup_reply (plain_answer a)

-- "The part is the record's whole data, 70, 102 or 46 bytes."
abbrev pub data_part : List ℕ → Place → reader.Part
data_part img p = reader.data_part catalog img p

abbrev pub found_part : List ℕ → Answer → reader.Part
found_part img a = reader.found_part catalog img (plain_answer a)

abbrev pub salvaged : List ℕ → Key → Salvage
salvaged img k = seen_as img (reader.salvaged catalog img (of_key k))

abbrev pub seen_part : List ℕ → Salvage → reader.Part
seen_part img s = reader.seen_part catalog img (plain_seen s)
