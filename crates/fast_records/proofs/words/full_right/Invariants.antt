-- `words::full_right` meets its contract. Assumes nothing.
use mathlib.Core.Path.{◌≡◌}
use Prim.Native.Nat.{ℕ, ◌+◌, ◌-◌, ◌*◌, ◌<◌}
use Rattle.image.specs.Bytes.{be16_at}
use Rattle.fast_records.proofs.words.full_right.Given as goal

abbrev pub invariant-loop-fours : goal.invariant-loop-fours
invariant-loop-fours l = (j : ℕ) → j < 4 * l.fours → be16_at l.image (l.end - 2 * j) ≡ 14 + j * 20
