-- The tree of a sound image can be searched.
-- Assumes nothing.
use mathlib.Core.List.{List}
use Prim.Native.Nat.{ℕ, ◌/◌, ◌<◌}
use lib.ListN.{length}
use Rattle.btree.specs.Tree.{OnLevel}
use Rattle.btree.specs.Header.{view_of}
use Rattle.btree.specs.Image.{Sound}
use Rattle.frame.specs.declared.form.Form.{Form}
use Rattle.frame.specs.Form.{layout_of, Fair}
use Rattle.frame.proofs.Forms.{whole-node}
use Rattle.formats.specs.Format.{format_of, view}
use Rattle.nodes.specs.Inside.{RecordsIn}
use Rattle.nodes.proofs.Within.{records-within}
use Rattle.search.specs.Descent.{Searchable}

module _ (form : Form) (f : Fair form) (img : List ℕ) (s : Sound (layout_of form) img (format_of form)) where
  records-in : (d n : ℕ) → OnLevel (view form img) d n → RecordsIn form img n
  unfolding view_of
  records-in d n o =
      let r = (s.nodes d n o).records in
      let t = s.header.total_nodes in
      let l : n < length img / form.size = rw (← t) (s.tree.in_range d n o) in
      records-within form img n _ (record { fair = f; inside = whole-node form (length img) n l }) r

  pub searchable : Searchable form img
  unfolding view_of
  searchable = record { fair = f; tree = s.tree; shallow = s.header.depth_in_range; inside = records-in }
