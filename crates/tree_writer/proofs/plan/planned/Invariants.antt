-- `plan::planned` meets its contract. Assumes nothing.
use mathlib.Core.Path.{◌≡◌}
use Prim.Native.Nat.{◌+◌, ◌-◌, ◌*◌, ◌≤◌, ◌<◌}
use Rattle.shape.specs.Shape.{nodes_at, start, levels_above, levels}
use Rattle.tree_writer.proofs.plan.planned.Given as goal

abbrev pub invariant-loop-depth : goal.invariant-loop-depth
invariant-loop-depth l = record {
  width : l.n ≡ nodes_at l.records (l.depth - 1);
  begin : l.root ≡ start l.maps l.records (l.depth - 1);
  above : l.depth + levels_above (8 - l.depth) l.n ≡ levels l.records;
  narrow : l.n < 50000000000000000;
  small : l.root ≤ 21 + 50000000000000000 * l.depth;
}
