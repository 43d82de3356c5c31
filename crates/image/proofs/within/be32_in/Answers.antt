-- `within::be32_in` meets its contract. Assumes nothing.
use native.Mathlib.Omega.{arith}
use Rattle.image.specs.Bytes.{be32_at}
use Rattle.image.proofs.within.be32_in.Goals as goal

pub returns : goal.returns
unfolding be32_at
returns c = omega arith
