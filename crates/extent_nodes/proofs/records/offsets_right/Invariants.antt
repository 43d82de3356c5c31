-- `records::offsets_right` meets its contract. Assumes nothing.
use Prim.Native.Nat.{ℕ, ◌+◌, ◌-◌, ◌*◌, ◌<◌, ◌≤◌}
use mathlib.Core.Path.{◌≡◌}
use Rattle.image.specs.Bytes.{be16_at}
use Rattle.extent_nodes.proofs.records.offsets_right.Given as goal

abbrev pub invariant-loop-i : goal.invariant-loop-i
invariant-loop-i l = (l.want ≡ 14 + l.i * l.size) × (l.want ≤ 14 + 102 * l.i) × ((j : ℕ) → j < l.i → be16_at l.image (l.last - 2 * j) ≡ 14 + j * l.size)
