-- `leaf::is_whole` meets its contract. Assumes nothing.
use mathlib.Core.Path.{sym}
use Rattle.btree.proofs.Decisions.{says-yes}
use Rattle.order.specs.Whole.{dec_whole_leaf}
use Rattle.fast_nodes.proofs.leaf.is_whole.Goals as goal

pub returns-then-surely_whole : goal.returns-then-surely_whole
returns-then-surely_whole c = sym (says-yes (dec_whole_leaf _ _ _) (c.surely_whole.ensures c.if-surely_whole.true))
