-- When the bytes of a node's records are there to be read.
-- Assumes nothing.
use Rattle.std.specs.Prelude.{List, ℕ, ◌+◌, ◌*◌, ◌<◌, ◌≤◌}
use Rattle.btree.specs.Header.{count_of}
use Rattle.frame.specs.declared.form.Form.{Form}
use Rattle.frame.specs.Form.{key_size, layout_of}
use Rattle.frame.specs.Inside.{NodeIn}
use Rattle.formats.specs.Format.{record_at}

-- the image has the node, and each record has in it the bytes of an index record at least: a key and a child's number
pub record RecordsIn (form : Form) (img : List ℕ) (n : ℕ) : Type 0 where
  pub node : NodeIn form img n
  pub within : (i : ℕ) → i < count_of (layout_of form) img n → record_at form img n i + (key_size form + 4) ≤ n * form.size + form.size
