-- `leaf_node` meets its contract. Assumes nothing.
use native.Mathlib.Omega.{arith}
use Rattle.put.proofs.Laws.{then, sized}
use Rattle.node_writer.specs.Parts.{leaf_node}
use Rattle.node_writer.proofs.leaf_node.Goals as goal

pub returns : goal.returns
unfolding leaf_node
returns c = sized (omega (arith, c.requires.0, c.requires.1)) (then c.describe-a.ensures (then c.copy-b.ensures c.node_end.ensures))
