-- `records::record_offset` meets its contract. Assumes nothing.
use mathlib.Core.Path.{sym}
use native.Mathlib.Omega.{arith}
use Rattle.btree.specs.Header.{view_of}
use Rattle.formats.proofs.Starts.{count_small, offset-extents, offset-catalog}
use Rattle.formats.proofs.records.record_offset.Goals as goal

pub overflow_cast-result : goal.overflow_cast-result
unfolding view_of
overflow_cast-result c =
    let n = count_small c.args.form c.args.image.now (λ i. omega (arith, c.type_inv.image i)) c.args.node in
    grind arith

pub returns-in-Extents : goal.returns-in-Extents
unfolding view_of
returns-in-Extents c =
    let a = c.args in
    let n = count_small a.form a.image.now (λ i. omega (arith, c.type_inv.image i)) a.node in
    let o = offset-extents a.form a.image.now a.node a.i (sym c.in-Extents.ensures) in
    grind arith

pub returns-in-Catalog : goal.returns-in-Catalog
returns-in-Catalog c = let a = c.args in let o = offset-catalog a.form a.image.now a.node a.i c.in-Catalog.ensures in grind arith
