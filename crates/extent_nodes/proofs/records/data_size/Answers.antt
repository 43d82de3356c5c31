-- `records::data_size` meets its contract. Assumes nothing.
use mathlib.Core.Path.{refl, sym}
use native.Mathlib.Omega.{arith}
use Rattle.frame.proofs.Forms.{if-not}
use Rattle.extent_nodes.specs.Records.{data_size}
use Rattle.extent_nodes.proofs.records.data_size.Goals as goal

pub returns-in-Hfs : goal.returns-in-Hfs
unfolding data_size
returns-in-Hfs c = (rw (← c.in-Hfs.ensures) refl, omega arith)

pub returns-in-HfsPlus : goal.returns-in-HfsPlus
unfolding data_size
returns-in-HfsPlus c = (sym (if-not _ 12 64 c.in-HfsPlus.ensures), omega arith)
