-- `records::record_at` meets its contract. Assumes nothing.
use mathlib.Core.Path.{sym}
use native.Mathlib.Omega.{arith}
use Rattle.formats.proofs.Starts.{offset-extents, offset-catalog}
use Rattle.formats.proofs.records.record_at.Goals as goal

pub returns-in-Extents : goal.returns-in-Extents
returns-in-Extents c = let a = c.args in let o = offset-extents a.form a.image.now a.node a.i (sym c.in-Extents.ensures) in grind arith

pub returns-in-Catalog : goal.returns-in-Catalog
returns-in-Catalog c = let a = c.args in let o = offset-catalog a.form a.image.now a.node a.i c.in-Catalog.ensures in grind arith
