-- `within::be16_in` meets its contract. Assumes nothing.
use native.Mathlib.Omega.{arith}
use Rattle.image.specs.Bytes.{be16_at}
use Rattle.image.proofs.within.be16_in.Goals as goal

pub returns : goal.returns
unfolding be16_at
returns c = omega arith
