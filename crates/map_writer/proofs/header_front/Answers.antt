-- `header_front` meets its contract. Assumes nothing.
use Rattle.put.proofs.Laws.{then}
use Rattle.map_writer.specs.Parts.{front}
use Rattle.map_writer.proofs.header_front.Goals as goal

pub returns : goal.returns
unfolding front
returns c = rw c.link.ensures at (then c.describe-a.ensures (then c.number16-b.ensures (then c.number32-c.ensures c.number32.ensures)))
