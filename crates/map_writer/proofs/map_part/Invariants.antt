-- `map_part` meets its contract. Assumes nothing.
use mathlib.Core.Path.{◌≡◌}
use Prim.Native.Nat.{◌+◌, ◌-◌}
use Rattle.put.specs.Put.{put}
use Rattle.laid.specs.Laid.{map_part}
use Rattle.map_writer.proofs.map_part.Given as goal

abbrev pub invariant-loop-k : goal.invariant-loop-k
invariant-loop-k l = record { bytes : put l.target l.a (map_part l.used l.k (l.from + l.count - l.k)) ≡ put l.initial.target l.at (map_part l.used l.from l.count); place : l.a + l.from ≡ l.at + l.k }
