-- `keys::keys_rise` meets its contract. Assumes nothing.
use Rattle.btree.specs.Header.{view_of}
use Rattle.order.proofs.keys.keys_rise.Goals as goal

pub returns : goal.returns
unfolding view_of
returns c e = record {
  ascend = c.keys_ascend.ensures.holds c.if-not-keys_ascend.false;
  last = rw (← c.count_of-c.ensures.0) (c.is_under.ensures.holds e);
}
