-- What is known of a node when its records are tested one after the other.
-- Assumes nothing.
use Rattle.std.specs.Prelude.{◌≡◌, List, ℕ, ◌+◌, ◌*◌, ◌≤◌, length}
use Rattle.btree.specs.Header.{count_of}
use Rattle.frame.specs.declared.form.Form.{Form}
use Rattle.frame.specs.Form.{layout_of}
use Rattle.catalog_nodes.specs.Node.{max_records, word_at}

-- the image has the node, of c records, not too many, the first of which starts where it must
pub record Begun (form : Form) (img : List ℕ) (kind n c : ℕ) : Type 0 where
  pub inside : n * form.size + form.size ≤ length img
  pub counted : c ≡ count_of (layout_of form) img n
  pub few : c ≤ max_records kind
  pub first : word_at form img n 0 ≡ n * form.size + 14
