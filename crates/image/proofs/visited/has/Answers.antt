-- `visited::has` meets its contract: a member is a number whose bit is 1. Assumes nothing.
use Rattle.image.specs.Set.{member}
use Rattle.image.proofs.visited.has.Goals as goal

pub returns : goal.returns
unfolding member
returns c = cc
