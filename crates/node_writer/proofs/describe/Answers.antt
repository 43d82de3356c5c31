-- `describe` meets its contract. Assumes nothing.
use Rattle.put.proofs.Laws.{then}
use Rattle.laid.specs.Laid.{described}
use Rattle.node_writer.proofs.describe.Goals as goal

pub returns : goal.returns
unfolding described
returns c = then (then (then (then (then c.number32-a.ensures c.number32-b.ensures) c.byte-c.ensures) c.byte-d.ensures) c.number16-e.ensures) c.number16.ensures
