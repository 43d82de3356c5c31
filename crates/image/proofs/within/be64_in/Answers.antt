-- `within::be64_in` meets its contract. Assumes nothing.
use native.Mathlib.Omega.{arith}
use Rattle.image.specs.Bytes.{be64_at}
use Rattle.image.proofs.within.be64_in.Goals as goal

pub returns : goal.returns
unfolding be64_at
returns c = omega arith
