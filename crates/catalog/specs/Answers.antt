-- W-204: "four kinds of leaf record .., told apart in the answer with their fields": what is answered of every tree, and with the entry that stands there.
-- Assumes nothing.
use Rattle.std.specs.Prelude.{List, [], ℕ}
use Rattle.btree.specs.declared.Place.{Place}
use Rattle.btree.specs.declared.Answer as tree
use Rattle.btree.specs.declared.Answer.TheVariants as tree_answer
use Rattle.btree.specs.declared.Lookup as tree_lookup
use Rattle.btree.specs.declared.Salvage as tree_seen
use Rattle.btree.specs.declared.Salvage.TheVariants as tree_salvage
use Rattle.btree.specs.Places.{image_offset}
use Rattle.btree.specs.Search.{path_out}
use Rattle.frame.specs.Form.{catalog, layout_of}
use Rattle.catalog_entries.specs.declared.Entry.{Entry}
use Rattle.catalog_entries.specs.Entry.{entry_at}
use Rattle.catalog.specs.declared.answers.Answer.{Answer}
use Rattle.catalog.specs.declared.answers.Answer.TheVariants as answer
use Rattle.catalog.specs.declared.answers.Lookup.{Lookup}
use Rattle.catalog.specs.declared.answers.Salvage.{Salvage}
use Rattle.catalog.specs.declared.answers.Salvage.TheVariants as salvage

-- the data of the leaf record that starts at a place
abbrev pub entry_of : List ℕ → Place → Entry
entry_of img p = entry_at img (image_offset (layout_of catalog) p)

-- with the entry: "Found says which of the four kinds it is, with its fields", "Seen likewise"
abbrev pub answered_as : List ℕ → tree.Answer → Answer
answered_as img (tree_answer.Found p) = answer.Found p (entry_of img p)
answered_as img (tree_answer.Absent n) = answer.Absent n
answered_as img (tree_answer.Refused number place) = answer.Refused number place

abbrev pub answered : List ℕ → tree_lookup.Lookup → Lookup
answered img l = record { answer = answered_as img l.answer; path = l.path; compared = l.compared }

abbrev pub seen_as : List ℕ → tree_seen.Salvage → Salvage
seen_as img (tree_salvage.Seen p) = salvage.Seen p (entry_of img p)
seen_as img tree_salvage.NotSeen = salvage.NotSeen
seen_as img (tree_salvage.Refused number place) = salvage.Refused number place

-- without it
abbrev pub plain_answer : Answer → tree.Answer
plain_answer (answer.Found p e) = tree_answer.Found p
plain_answer (answer.Absent n) = tree_answer.Absent n
plain_answer (answer.Refused number place) = tree_answer.Refused number place

abbrev pub plain : Lookup → tree_lookup.Lookup
plain l = record { answer = plain_answer l.answer; path = l.path; compared = l.compared }

abbrev pub plain_seen : Salvage → tree_seen.Salvage
plain_seen (salvage.Seen p e) = tree_salvage.Seen p
plain_seen salvage.NotSeen = tree_salvage.NotSeen
plain_seen (salvage.Refused number place) = tree_salvage.Refused number place

-- "refused means length 0"; W-202: "0 when refused"
abbrev pub refused : ℕ → Place → Lookup
refused number place = record { answer = answer.Refused number place; path = path_out []; compared = 0 }
