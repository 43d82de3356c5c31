-- `leaf::surely_whole` meets its contract. Assumes nothing.
use mathlib.Core.Path.{refl}
use Rattle.fast_records.proofs.Surely.{bytes-of}
use Rattle.fast_nodes.proofs.Nodes.{leaf-size, whole-leaf}
use Rattle.fast_nodes.proofs.leaf.surely_whole.Goals as goal

pub returns : goal.returns
returns c e =
    whole-leaf _ (c.is_hfs.ensures c.if-not-is_hfs.false) _ (bytes-of _ c.type_inv.image) _ _ 255 20 _ c.start_of-start.ensures.0 leaf-size (c.records_right.ensures e) refl
