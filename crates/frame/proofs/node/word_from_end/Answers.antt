-- `node::word_from_end` meets its contract. Assumes nothing.
use Rattle.frame.proofs.node.word_from_end.Goals as goal

pub returns : goal.returns
returns c = (cc, c.be16.ensures.1)
