-- `map_node` meets its contract. Assumes nothing.
use Rattle.put.proofs.Laws.{then, same}
use Rattle.laid.specs.Laid.{map_node}
use Rattle.map_writer.proofs.Steps.{map-linked}
use Rattle.map_writer.proofs.map_node.Goals as goal

pub returns : goal.returns
unfolding map_node
returns c =
    same (map-linked _ _ c.link.result c.link.ensures _)
    (then c.describe-a.ensures (then c.map_part-b.ensures (then c.number16-c.ensures c.number16.ensures)))
