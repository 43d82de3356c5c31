-- `first_seen` meets its contract: the nodes that are left give what all give. Assumes nothing.
use Prim.Native.Nat.{◌-◌, ◌/◌}
use mathlib.Core.Path.{◌≡◌}
use lib.ListN.{length}
use Rattle.formats.specs.Asked.{asked_rank}
use Rattle.scan.specs.Seen.{seen_from}
use Rattle.scan.proofs.first_seen.Given as goal

abbrev pub invariant-loop-node : goal.invariant-loop-node
invariant-loop-node l = seen_from l.form l.image (asked_rank l.form l.key l.name) 1 (length l.image / l.form.size - 1) ≡ seen_from l.form l.image (asked_rank l.form l.key l.name) l.node (l.total - l.node)
