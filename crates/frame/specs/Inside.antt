-- When the bytes of a node are there to be read.
-- Assumes nothing.
use Rattle.std.specs.Prelude.{List, ℕ, ◌+◌, ◌*◌, ◌≤◌, length}
use Rattle.frame.specs.declared.form.Form.{Form}
use Rattle.frame.specs.Form.{Fair}

-- the image has the node
pub record NodeIn (form : Form) (img : List ℕ) (n : ℕ) : Type 0 where
  pub fair : Fair form
  pub inside : n * form.size + form.size ≤ length img
