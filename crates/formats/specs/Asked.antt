-- A key that is asked for, as the code has it.
-- Assumes nothing.
use Rattle.std.specs.Prelude.{List, ℕ}
use Rattle.frame.specs.declared.form.Form.{Form}
use Rattle.frame.specs.Form.{by_tree}
use Rattle.extent_keys.specs.declared.key.SortKey.{SortKey}
use Rattle.extent_keys.specs.Key.{rank_of}
use Rattle.catalog_keys.specs.Key.{rank, asked}

-- an extents record's key is the sort key, whose name is not looked at; a catalog's is the parent number, as owner, and the name
abbrev pub asked_rank : Form → SortKey → List ℕ → ℕ
asked_rank form key name = by_tree form (rank_of key) (rank (asked key.owner name))
