-- `wrong_in` meets its contract. The loops' invariants: what is left from the byte, and from the bit in it, gives what all bytes give. Assumes nothing.
use Rattle.std.specs.Prelude.{None}
use mathlib.Core.Path.{◌≡◌}
use Prim.Native.Nat.{◌+◌, ◌-◌, ◌*◌}
use lib.ListN.{drop}
use Rattle.image.specs.Bit.{bit_of}
use Rattle.btree.specs.Tests.{wrong_in, or_some, lowest_wrong}
use Rattle.map.proofs.wrong_in.Given as goal

abbrev pub invariant-bits : goal.invariant-bits
invariant-bits l =
    (l.found ≡ None)
    × (lowest_wrong (bit_of l.bits) (8 * l.first) l.map ≡ or_some (wrong_in (bit_of l.bits) l.x (8 * (l.first + l.i)) l.j (8 - l.j)) (lowest_wrong (bit_of l.bits) (8 * (l.first + (l.i + 1))) (drop (l.i + 1) l.map)))

abbrev pub invariant-bytes : goal.invariant-bytes
invariant-bytes l = (l.found ≡ None) × (lowest_wrong (bit_of l.bits) (8 * l.first) l.map ≡ lowest_wrong (bit_of l.bits) (8 * (l.first + l.i)) (drop l.i l.map))
