-- `keys_right` meets its contract. Assumes nothing.
use mathlib.Core.Path.{◌≡◌}
use Prim.Native.Nat.{◌-◌, ◌*◌}
use Rattle.frame.specs.Form.{hfs}
use Rattle.extent_keys.specs.Key.{rank_of}
use Rattle.formats.specs.Format.{rank_at}
use Rattle.leaf_rows.specs.Row.{KeysRight}
use Rattle.leaf_rows.proofs.keys_right.Given as goal

abbrev pub invariant-loop-i : goal.invariant-loop-i
invariant-loop-i l = record { last : rank_of l.key ≡ rank_at hfs l.row ((l.i - 1) * 20); right : KeysRight l.row l.i }
