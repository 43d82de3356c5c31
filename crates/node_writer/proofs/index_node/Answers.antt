-- `index_node` meets its contract. Assumes nothing.
use native.Mathlib.Omega.{arith}
use Rattle.put.proofs.Laws.{then, sized}
use Rattle.node_writer.specs.Parts.{index_node}
use Rattle.node_writer.proofs.index_node.Goals as goal

pub returns : goal.returns
unfolding index_node
returns c = sized (omega (arith, c.requires.1)) (then c.describe-a.ensures (then c.index_entries-b.ensures c.node_end.ensures))
