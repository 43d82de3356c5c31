-- `header_words` meets its contract. Assumes nothing.
use Rattle.put.proofs.Laws.{then}
use Rattle.map_writer.proofs.header_words.Goals as goal

pub returns : goal.returns
returns c = then c.number16-a.ensures (then c.number16-b.ensures (then c.number16-c.ensures c.number16.ensures))
