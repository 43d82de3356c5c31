-- `ascent::extents_ascend` meets its contract. Assumes nothing.
use Prim.Native.Nat.{ℕ, ◌+◌, ◌*◌, ◌<◌, ◌≤◌}
use mathlib.Core.Path.{◌≡◌}
use Rattle.extent_keys.specs.Key.{rank_of}
use Rattle.formats.specs.Format.{record_at, view}
use Rattle.order.proofs.ascent.extents_ascend.Given as goal

abbrev pub invariant-loop-i : goal.invariant-loop-i
invariant-loop-i l =
    (l.at ≡ record_at l.fn.form l.image l.node l._i) × (l.at ≤ 200000000000000 + 102 * l._i) × (rank_of l.key ≡ (view l.fn.form l.image).key l.node l._i)
    × ((j : ℕ) → j < l._i → (view l.fn.form l.image).key l.node j < (view l.fn.form l.image).key l.node (j + 1))
