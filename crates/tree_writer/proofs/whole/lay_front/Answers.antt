-- `whole::lay_front` meets its contract. Assumes nothing.
use native.Mathlib.Omega.{arith}
use Rattle.put.proofs.Laws.{then}
use Rattle.tree_writer.proofs.whole.lay_front.Goals as goal

pub header_node-a-requires : goal.header_node-a-requires
header_node-a-requires c =
    let p = c.requires in (
      omega (arith, p.room),
      record { is_root = p.is_root; is_first = c.first_leaf.ensures _; is_last = c.last_leaf.ensures _ p.leaves; is_used = p.is_used },
      p.fits,
    )

pub returns : goal.returns
returns c = then c.header_node-a.ensures c.map_nodes.ensures
