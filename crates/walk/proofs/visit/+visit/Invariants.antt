-- The proof of the cycle of calls {visit}. Its measure is `below`. The loop's invariant: the steps along the entries left, from the bits and
-- the state that are there, give what those along all entries below the node give from those that the loop began with. Assumes nothing.
use mathlib.Core.Path.{◌≡◌}
use Prim.Native.Nat.{◌-◌, ◌≤◌}
use Rattle.btree.specs.Lists.{span}
use Rattle.btree.specs.Walk.{kid}
use Rattle.formats.specs.Format.{view}
use Rattle.order.specs.Bound.{bound}
use Rattle.step.specs.State.{steps}
use Rattle.step.specs.State.State.{going}
use Rattle.step.specs.Room.{Small}
use Rattle.walk.proofs.visit.+visit.Given as goal

abbrev pub invariant-loop-i : goal.invariant-loop-i
invariant-loop-i l =
    (l.i ≤ l.c)
    × (steps (view l.form l.image) (going l.bits l.w) (span l.i (l.c - l.i) (kid (view l.form l.image) (l.below - 1) l.e.level (bound l.form l.image l.e.high) l.e.node))
    ≡ steps (view l.form l.image) (going l.initial.bits l.initial.w) (span 0 l.c (kid (view l.form l.image) (l.below - 1) l.e.level (bound l.form l.image l.e.high) l.e.node)))
    × Small l.bits l.w

abbrev pub decreases-loop-i : goal.decreases-loop-i
decreases-loop-i l = l.c - l.i

abbrev pub decreases-visit : goal.decreases-visit
decreases-visit l = l.below
