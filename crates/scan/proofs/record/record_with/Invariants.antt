-- `record::record_with` meets its contract: what is left of the records gives what all give. Assumes nothing.
use Prim.Native.Nat.{◌-◌}
use mathlib.Core.Path.{◌≡◌}
use Rattle.btree.specs.Search.{record_with}
use Rattle.formats.specs.Asked.{asked_rank}
use Rattle.formats.specs.Format.{view}
use Rattle.scan.proofs.record.record_with.Given as goal

abbrev pub invariant-loop-i : goal.invariant-loop-i
invariant-loop-i l = record_with (view l.form l.image) l.node (asked_rank l.form l.key l.name) 0 ((view l.form l.image).count l.node) ≡ record_with (view l.form l.image) l.node (asked_rank l.form l.key l.name) l.i (l.i-end - l.i)
