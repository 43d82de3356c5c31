-- What the exports write of a catalog's answer: the numbers of every tree's, then the record's type and how many data bytes it has.
-- Assumes nothing.
use Rattle.std.specs.Prelude.{List, [], ◌∷◌, ◌++◌, ℕ}
use Rattle.btree.specs.Numbers.{salvage_reply, reply_numbers, lookup_numbers}
use Rattle.catalog_entries.specs.declared.Entry.{Entry}
use Rattle.catalog_entries.specs.declared.Entry.TheVariants as kind
use Rattle.catalog_nodes.specs.Node.{size_of_type}
use Rattle.catalog.specs.declared.answers.Answer.{Answer}
use Rattle.catalog.specs.declared.answers.Answer.TheVariants as answer
use Rattle.catalog.specs.declared.answers.Lookup.{Lookup}
use Rattle.catalog.specs.declared.answers.Salvage.{Salvage}
use Rattle.catalog.specs.declared.answers.Salvage.TheVariants as salvage
use Rattle.catalog.specs.Answers.{plain, plain_seen}

-- "1 directory, ..; 2 file, ..; 3 directory thread, ..; 4 file thread"
abbrev pub type_of : Entry → ℕ
type_of (kind.Directory d) = 1
type_of (kind.File f) = 2
type_of (kind.DirectoryThread t) = 3
type_of (kind.FileThread t) = 4

-- "type, data size (0, 0 unless found)"
abbrev pub found_type : Answer → ℕ
found_type (answer.Found p e) = type_of e
found_type (answer.Absent n) = 0
found_type (answer.Refused number place) = 0

abbrev pub seen_type : Salvage → ℕ
seen_type (salvage.Seen p e) = type_of e
seen_type salvage.NotSeen = 0
seen_type (salvage.Refused number place) = 0

abbrev pub type_and_size : ℕ → List ℕ
type_and_size t = t ∷ size_of_type t ∷ []

-- "number, node, offset, compared, path length, path[8], type, data size"
abbrev pub entry_numbers : Lookup → List ℕ
entry_numbers l = lookup_numbers (plain l) ++ type_and_size (found_type l.answer)

-- "number, node, offset, type, size"
abbrev pub seen_numbers : Salvage → List ℕ
seen_numbers s = reply_numbers (salvage_reply (plain_seen s)) ++ type_and_size (seen_type s)
