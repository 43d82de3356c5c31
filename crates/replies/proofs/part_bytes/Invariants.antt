-- `part_bytes` meets its contract. The loop keeps that the bytes before k are the image's, and the others 0. Assumes nothing.
use Prim.Native.Nat.{ℕ, ◌≤◌, ◌<◌}
use mathlib.Core.Path.{◌≡◌}
use lib.ListN.{length, get_or}
use Rattle.replies.proofs.part_bytes.Given as goal

abbrev pub invariant-loop-k : goal.invariant-loop-k
invariant-loop-k g l = (length l.«data» ≡ g.row.N) × ((j : ℕ) → j < l.k → get_or l.«data» j 0 ≡ get_or l.rest j 0) × ((j : ℕ) → l.k ≤ j → get_or l.«data» j 0 ≡ 0)
