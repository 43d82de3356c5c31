-- `bytes::bytes_from` meets its contract. The loop's invariant: the first i bytes are the image's. Assumes nothing.
use mathlib.Core.Path.{◌≡◌}
use Prim.Native.Nat.{ℕ, ◌+◌, ◌<◌}
use lib.ListN.{length, get_or}
use Rattle.image.proofs.bytes.bytes_from.Given as goal

abbrev pub invariant-loop-i : goal.invariant-loop-i
invariant-loop-i g l = (length l.byte-items ≡ g.row.N) × ((k : ℕ) → k < l.i → get_or l.byte-items k 0 ≡ get_or l.image (l.at + k) 0)
