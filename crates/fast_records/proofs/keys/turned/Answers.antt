-- `keys::turned` meets its contract. Assumes nothing.
use native.Mathlib.Omega.{arith}
use Prim.Native.Nat.{◌/◌, ◌%◌}
use Rattle.fast_records.specs.Keyed.{turn}
use Rattle.fast_records.proofs.Turns.{lead-small, joined}
use Rattle.fast_records.proofs.keys.turned.Goals as goal

pub returns : goal.returns
unfolding turn
returns c =
    let w = c.rotated-whole.ensures in
    let x = c.args.raw in
    rw (c.rotated_half-half.ensures, w) (joined (x % 281474976710656) (x / 281474976710656) (lead-small x (omega arith)))
