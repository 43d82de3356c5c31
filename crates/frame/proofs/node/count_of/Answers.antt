-- `node::count_of` meets its contract. Assumes nothing.
use Rattle.frame.proofs.node.count_of.Goals as goal

pub returns : goal.returns
returns c = (cc, c.be16.ensures.1)
