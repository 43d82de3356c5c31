-- `whole::lay_tree` meets its contract. Assumes nothing.
use native.Mathlib.Omega.{arith}
use Rattle.put.proofs.Laws.{then}
use Rattle.tree_writer.proofs.whole.lay_tree.Goals as goal

pub index_levels-requires : goal.index_levels-requires
index_levels-requires c =
    let p = c.requires in
    let a = c.leaf_level-a in
    (omega (arith, c.saturating_sub.ensures, p.low), rw (c.saturating_sub.ensures, a.ensures.next, a.auto.target) p.levels)

pub returns : goal.returns
returns c = then c.leaf_level-a.ensures (rw c.saturating_sub.ensures at c.index_levels.ensures)
