-- `node::back_of` meets its contract. Assumes nothing.
use Rattle.frame.proofs.node.back_of.Goals as goal

pub returns : goal.returns
returns c = cc
