-- `header_node` meets its contract. Assumes nothing.
use Rattle.put.proofs.Laws.{then, same}
use Rattle.map_writer.proofs.Steps.{header_is}
use Rattle.map_writer.proofs.header_node.Goals as goal

pub returns : goal.returns
returns c =
    let h = c.requires.1 in
    same (header_is _ _ _ _ _ _ _ _ h.is_root h.is_first h.is_last h.is_used)
    (then c.header_front-a.ensures (then c.header_numbers-b.ensures (then c.zeros-c.ensures (then c.map_part-d.ensures c.header_words.ensures))))
