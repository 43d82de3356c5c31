-- `halving::halve` meets its contract: what is left of the records gives what all give. Assumes nothing.
use Prim.Native.Nat.{◌-◌, ◌<◌}
use Rattle.formats.specs.Asked.{asked_rank}
use Rattle.formats.specs.Format.{view}
use Rattle.search.proofs.Narrowing.{Narrowed}
use Rattle.search.proofs.halving.halve.Given as goal

abbrev pub invariant-loop-low : goal.invariant-loop-low
invariant-loop-low l = ((view l.form l.image).count l.node < 65536) × Narrowed ((view l.form l.image).key l.node) (asked_rank l.form l.key l.name) ((view l.form l.image).count l.node) l.low l.high l.compared

abbrev pub decreases-loop-low : goal.decreases-loop-low
decreases-loop-low l = l.high - l.low
