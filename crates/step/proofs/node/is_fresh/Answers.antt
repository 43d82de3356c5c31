-- `node::is_fresh` meets its contract. Assumes nothing.
use borrow.Author.Tests.{le-ltb, lt-ltb}
use Rattle.step.specs.State.{fresh_in}
use Rattle.step.proofs.node.is_fresh.Goals as goal

pub returns-then-node-total : goal.returns-then-node-total
unfolding fresh_in
returns-then-node-total c = rw (lt-ltb _ _ c.if-node-total.true, c.bit_at.ensures.0)

pub returns-else-node-total : goal.returns-else-node-total
unfolding fresh_in
returns-else-node-total c = rw (le-ltb _ _ c.if-node-total.false)
