-- `node::reserved_of` meets its contract. Assumes nothing.
use Rattle.frame.proofs.node.reserved_of.Goals as goal

pub returns : goal.returns
returns c = (cc, c.be16.ensures.1)
