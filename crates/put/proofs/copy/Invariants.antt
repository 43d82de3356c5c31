-- `copy` meets its contract. Assumes nothing.
use mathlib.Core.Path.{◌≡◌}
use Prim.Native.Nat.{◌+◌}
use lib.ListN.{length, drop}
use Rattle.put.specs.Put.{put}
use Rattle.put.proofs.copy.Given as goal

abbrev pub invariant-loop-i : goal.invariant-loop-i
invariant-loop-i l = (put l.target (l.at + l.i) (drop l.i l.s) ≡ put l.initial.target l.at l.s) × (length l.target ≡ length l.initial.target)
