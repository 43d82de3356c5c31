-- `eights::same_bytes` meets its contract. Assumes nothing.
use Prim.Native.Nat.{ℕ, ◌*◌, ◌<◌}
use Rattle.map.proofs.SameBytes.{SameAt}
use Rattle.map.proofs.eights.same_bytes.Given as goal

abbrev pub invariant-loop-eight : goal.invariant-loop-eight
invariant-loop-eight l = (j : ℕ) → j < 8 * l.eight → SameAt l.map l.bits l.first j
