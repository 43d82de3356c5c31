-- The kinds of a tree's nodes.
-- Assumes nothing.
use Rattle.std.specs.Prelude.{List, ℕ, ◌+◌, ◌*◌, get_or}
use Rattle.std.proofs.Math.Decide.{ℕ_discrete}
use Rattle.btree.specs.Decide.{cond}
use Rattle.frame.specs.declared.form.Form.{Form}
use Rattle.frame.specs.declared.kind.Kind.{Kind}
use Rattle.frame.specs.declared.kind.Kind.TheVariants.{Index, Leaf}

-- "Kinds: 00 index, 01 header, 02 map, FF leaf."
abbrev pub leaf_kind : ℕ
leaf_kind = 255

abbrev pub index_kind : ℕ
index_kind = 0

abbrev pub kind_number : Kind → ℕ
kind_number Index = index_kind
kind_number Leaf = leaf_kind

-- as what a node with this byte is read, before its kind is tested
abbrev pub kind_for : ℕ → Kind
kind_for byte = cond (ℕ_discrete byte leaf_kind) Leaf Index

-- W-201: "leaves are exactly the nodes of level 1"
unfoldable pub kind_on : ℕ → ℕ
kind_on level = cond (ℕ_discrete level 1) leaf_kind index_kind

module _ (form : Form) (img : List ℕ) where
  unfoldable pub kind_of : ℕ → ℕ
  kind_of n = get_or img (n * form.size + 8) 0

  abbrev pub level_of : ℕ → ℕ
  level_of n = get_or img (n * form.size + 9) 0
