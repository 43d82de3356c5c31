-- `leaf_level` meets its contract. Assumes nothing.
use mathlib.Core.Path.{◌≡◌}
use Prim.Native.Nat.{◌+◌, ◌-◌, ◌*◌}
use Rattle.put.specs.Put.{put}
use Rattle.level_writer.specs.Parts.{leaves_from}
use Rattle.level_writer.proofs.leaf_level.Given as goal

abbrev pub invariant-loop-k : goal.invariant-loop-k
invariant-loop-k l = record { bytes : put l.target l.a (leaves_from l.row l.first l.k (l.nodes - l.k)) ≡ put l.initial.target l.at (leaves_from l.row l.first 0 l.nodes); place : l.a ≡ l.at + 512 * l.k }
