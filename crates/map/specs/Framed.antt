-- When the code may go on to the map bits, and a wrong one as it has it.
-- Assumes nothing.
use Rattle.std.specs.Prelude.{◌≡◌, List, ℕ, ◌/◌, length, Some, None}
use Rattle.std.specs.Prelude.{Option as Found}
use Rattle.std.proofs.Math.Option.{Option, none, some}
use Rattle.btree.specs.Header.{total_of}
use Rattle.btree.specs.Image.{Lengths, MapChain}
use Rattle.frame.specs.declared.form.Form.{Form}
use Rattle.frame.specs.Form.{layout_of, Fair}

-- a wrong bit, as the code has it
abbrev pub wrong_of : Found ℕ → Option ℕ
wrong_of (Some k) = some k
wrong_of None = none

-- an image whose length, total and map chain are right
pub record Framed (form : Form) (img : List ℕ) : Type 0 where
  pub fair : Fair form
  pub lengths : Lengths (layout_of form) img
  pub total_nodes : total_of img ≡ length img / form.size
  pub chain : MapChain (layout_of form) img
