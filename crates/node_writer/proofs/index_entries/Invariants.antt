-- `index_entries` meets its contract. Assumes nothing.
use mathlib.Core.Path.{◌≡◌}
use Prim.Native.Nat.{◌+◌, ◌-◌, ◌*◌}
use Rattle.put.specs.Put.{put}
use Rattle.node_writer.specs.Parts.{indexed}
use Rattle.node_writer.proofs.index_entries.Given as goal

abbrev pub invariant-loop-i : goal.invariant-loop-i
invariant-loop-i l = let s = l.children in record {
  bytes : put l.target l.a (indexed (s.count - l.i) (s.from + l.i * s.step) s.step (s.child + l.i) l.row) ≡ put l.initial.target l.at (indexed s.count s.from s.step s.child l.row);
  place : l.a ≡ l.at + 12 * l.i;
}
