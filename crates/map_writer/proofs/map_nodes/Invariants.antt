-- `map_nodes` meets its contract. Assumes nothing.
use mathlib.Core.Path.{◌≡◌}
use Prim.Native.Nat.{◌+◌, ◌-◌, ◌*◌}
use Rattle.put.specs.Put.{put}
use Rattle.btree.specs.Lists.{span}
use Rattle.laid.specs.Laid.{map_node}
use Rattle.map_writer.proofs.map_nodes.Given as goal

abbrev pub invariant-loop-i : goal.invariant-loop-i
invariant-loop-i l = record { bytes : put l.target l.a (span l.i (l.maps - l.i) (map_node l.maps l.used)) ≡ put l.initial.target l.at (span 0 l.maps (map_node l.maps l.used)); place : l.a ≡ l.at + 512 * l.i }
