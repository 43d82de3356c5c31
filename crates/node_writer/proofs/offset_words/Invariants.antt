-- `offset_words` meets its contract. Assumes nothing.
use mathlib.Core.Path.{◌≡◌}
use Prim.Native.Nat.{◌+◌, ◌*◌}
use Rattle.put.specs.Put.{put}
use Rattle.laid.specs.Laid.{offsets}
use Rattle.node_writer.proofs.offset_words.Given as goal

abbrev pub invariant-loop-k : goal.invariant-loop-k
invariant-loop-k l = record { bytes : put l.target l.a (offsets l.size l.k) ≡ put l.initial.target l.at (offsets l.size l.count); place : l.a + 2 * l.k ≡ l.at + 2 * l.count }
