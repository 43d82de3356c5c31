-- `index_level` meets its contract. Assumes nothing.
use mathlib.Core.Path.{◌≡◌}
use Prim.Native.Nat.{◌+◌, ◌-◌, ◌*◌}
use Rattle.put.specs.Put.{put}
use Rattle.btree.specs.Lists.{span}
use Rattle.level_writer.specs.Parts.{index_at}
use Rattle.level_writer.proofs.index_level.Given as goal

abbrev pub invariant-loop-k : goal.invariant-loop-k
invariant-loop-k l = let o = l.level in record {
  bytes :
      put l.target l.a (span l.k (o.nodes - l.k) (index_at o.number o.first o.nodes o.child o.children o.step l.row))
      ≡ put l.initial.target l.at (span 0 o.nodes (index_at o.number o.first o.nodes o.child o.children o.step l.row));
  place : l.a ≡ l.at + 512 * l.k;
}
