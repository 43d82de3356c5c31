-- `part::part_at` meets its contract. Assumes nothing.
use lib.ListN.{length-take, length-drop}
use native.Mathlib.Omega.{arith}
use Prim.Native.Nat.{◌+◌, ◌-◌}
use mathlib.Core.Path.{◌≡◌, refl}
use Rattle.image.proofs.part.part_at.Goals as goal

pub returns : goal.returns
returns c = let a = c.args in
    let n : a.at + a.n - a.at ≡ a.n = omega arith in
    record { holds = rw n; size = simp (n, length-take, length-drop) (omega arith); block = refl; offset = omega arith }
