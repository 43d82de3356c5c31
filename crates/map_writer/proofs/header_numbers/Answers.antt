-- `header_numbers` meets its contract. Assumes nothing.
use Rattle.put.proofs.Laws.{then}
use Rattle.map_writer.specs.Parts.{numbers}
use Rattle.map_writer.proofs.header_numbers.Goals as goal

pub returns : goal.returns
unfolding numbers
returns c = then c.number32-a.ensures (then c.number32-b.ensures (then c.number16-c.ensures (then c.number16-d.ensures (then c.number32-e.ensures c.number32.ensures))))
