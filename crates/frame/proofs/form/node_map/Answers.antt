-- `form::node_map` meets its contract. Assumes nothing.
use mathlib.Core.Path.{sym}
use native.Mathlib.Omega.{arith}
use Rattle.frame.proofs.Forms.{node-map-hfs, node-map-plus}
use Rattle.frame.proofs.form.node_map.Goals as goal

pub returns-in-Hfs : goal.returns-in-Hfs
returns-in-Hfs c = let m = node-map-hfs c.args.form (sym c.in-Hfs.ensures) in (omega arith, omega arith)

pub returns-in-HfsPlus : goal.returns-in-HfsPlus
returns-in-HfsPlus c =
    let m = node-map-plus c.args.form c.in-HfsPlus.ensures in (omega arith, omega arith)
