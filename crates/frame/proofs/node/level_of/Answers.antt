-- `node::level_of` meets its contract. Assumes nothing.
use Rattle.frame.proofs.node.level_of.Goals as goal

pub returns : goal.returns
returns c = (cc, c.byte_at.ensures.1)
