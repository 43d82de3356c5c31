-- `index_levels` meets its contract. Assumes nothing.
use mathlib.Core.Path.{◌≡◌}
use Prim.Native.Nat.{◌+◌, ◌-◌}
use lib.ListN.{length}
use Rattle.put.specs.Put.{put}
use Rattle.level_writer.specs.Parts.{index_levels, levels_size, LevelsIn}
use Rattle.level_writer.proofs.index_levels.Given as goal

abbrev pub invariant-loop-number : goal.invariant-loop-number
invariant-loop-number l = record {
  bytes : put l.target l.a (index_levels l.row (l.levels + 2 - l.number) l.number l.lower l.width l.step) ≡ put l.initial.target l.at (index_levels l.row l.levels 2 l.child l.children 440);
  place : l.a + levels_size (l.levels + 2 - l.number) l.width ≡ l.at + levels_size l.levels l.children;
  room : LevelsIn (length l.initial.target) (length l.row) (l.levels + 2 - l.number) l.a l.lower l.width l.step;
}
