-- A key that points at a node or bounds its keys, as the code has it: by its place.
-- Assumes nothing.
use Rattle.std.proofs.Math.Option.{Option, none, some}
use Rattle.std.specs.Prelude.{List, ℕ, ◌-◌}
use Rattle.btree.specs.Decide.{if_zero}
use Rattle.frame.specs.declared.form.Form.{Form}
use Rattle.formats.specs.Format.{rank_at}

-- the key that stands at the byte before this one of the image, and none for 0
unfoldable pub bound : Form → List ℕ → ℕ → Option ℕ
bound form img after = if_zero after none (some (rank_at form img (after - 1)))
