-- `bytes::bit_at` meets its contract: `& 1` is `% 2`, and past the end both sides are 0. Assumes nothing.
use Prim.Native.Nat.{◌-◌, ◌/◌, ◌%◌, ◌^◌}
use native.Mathlib.Omega.{arith}
use Rattle.image.specs.Bit.{bit_of}
use Rattle.image.proofs.Laws.{bit-small, bit-beyond}
use lib.Bits.{and_mask}
use Rattle.image.proofs.bytes.bit_at.Goals as goal

pub returns-in-Some : goal.returns-in-Some
unfolding bit_of
returns-in-Some c =
    let e = and_mask (c.in-Some.byte.now / 2 ^ (7 - c.args.n % 8)) 1 in
    grind (arith, e, bit-small)

pub returns-in-None : goal.returns-in-None
returns-in-None c = grind (arith, bit-beyond)
