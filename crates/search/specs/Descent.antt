-- What the descent from the root to a leaf needs, and where it ends.
-- Assumes nothing.
use Rattle.std.specs.Prelude.{◌≡◌, List, ℕ, ◌≤◌}
use Rattle.btree.specs.Tree.{View, OnLevel, SoundTree}
use Rattle.btree.specs.Halving.{before}
use Rattle.btree.specs.Search.{path_of, compared_of, in_leaf, with_key, answer_of, floor_of, path_out}
use Rattle.frame.specs.declared.form.Form.{Form}
use Rattle.frame.specs.Form.{Fair}
use Rattle.formats.specs.Format.{view}
use Rattle.nodes.specs.Inside.{RecordsIn}
use Rattle.search.specs.declared.descent.Reached.{Reached}

-- an image whose tree can be searched by halving, as the check has shown it
pub record Searchable (form : Form) (img : List ℕ) : Type 0 where
  pub fair : Fair form
  pub tree : SoundTree (view form img)
  pub shallow : (view form img).depth ≤ 8
  -- the image has the tree's nodes
  pub inside : (d n : ℕ) → OnLevel (view form img) d n → RecordsIn form img n

-- a descent that ends at this node, before that record of it, after the nodes stored and the keys compared
abbrev pub reached_at : List ℕ → ℕ → ℕ → ℕ → ℕ → Reached
reached_at nodes len compared node end = record { path = record { nodes = nodes; len = len }; compared = compared; node = node; end = end }

-- where the search for k ends
pub record Reaches (v : View) (k : ℕ) (r : Reached) : Type 0 where
  pub is_path : r.path ≡ path_out (path_of v k)
  pub is_compared : r.compared ≡ compared_of v k
  pub inside : r.end ≤ v.count r.node
  -- the record before the end, where it has k; and whether it has or not
  pub is_answer : in_leaf v r.node (with_key v k r.node (before r.end)) ≡ answer_of v k
  pub is_floor : in_leaf v r.node (before r.end) ≡ floor_of v k
