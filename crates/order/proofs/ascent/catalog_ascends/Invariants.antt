-- `ascent::catalog_ascends` meets its contract. Assumes nothing.
use Prim.Native.Nat.{ℕ, ◌-◌, ◌<◌}
use mathlib.Core.Path.{◌≡◌}
use Rattle.catalog_keys.specs.Weights.{weights}
use Rattle.formats.specs.Format.{record_at, view}
use Rattle.order.proofs.ascent.catalog_ascends.Given as goal

abbrev pub invariant-loop-i : goal.invariant-loop-i
invariant-loop-i l =
    (l.table ≡ weights) × (l.at ≡ record_at l.form l.image l.node (l.i - 1)) × (l.at < 200000000000000)
    × ((k : ℕ) → k < l.i → 0 < k → (view l.form l.image).key l.node (k - 1) < (view l.form l.image).key l.node k)
