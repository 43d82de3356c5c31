-- `node::kind_of` meets its contract. Assumes nothing.
use Rattle.frame.proofs.node.kind_of.Goals as goal

pub returns : goal.returns
returns c = (cc, c.byte_at.ensures.1)
