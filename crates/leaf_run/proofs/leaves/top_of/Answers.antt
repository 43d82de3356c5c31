-- `leaves::top_of` meets its contract. Assumes nothing.
use mathlib.Core.Path.{◌≡◌, refl}
use native.Mathlib.Decide.{ℕ_discrete}
use Rattle.btree.specs.Walk.{Under}
use Rattle.fast_records.proofs.Surely.{bytes-of, before-or}
use Rattle.fast_nodes.proofs.Ranks.{below-rank}
use Rattle.frame.specs.Form.{hfs}
use Rattle.formats.specs.Format.{rank_at}
use Rattle.order.specs.Bound.{bound}
use Rattle.order.proofs.Bounds.{no_bound, bound-under}
use Rattle.leaf_run.proofs.leaves.top_of.Goals as goal

pub returns : goal.returns
returns c at l = go (ℕ_discrete c.args.high 0)
  where
    go : Dec (c.args.high ≡ 0) → Under (rank_at hfs c.args.image.now at) (bound hfs c.args.image.now c.args.high)
    go (yes e) = no_bound hfs _ _ _ e
    go (no h) = (bound-under hfs _ _ _ h).1 (below-rank hfs refl refl _ (bytes-of _ c.type_inv.image) at _ (rw (before-or _ _ _ _ _ c.packed_before.ensures c.unwrap_or.ensures h) at l))
