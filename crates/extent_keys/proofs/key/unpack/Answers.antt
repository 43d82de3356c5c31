-- `key::unpack` meets its contract. Assumes nothing.
use native.Mathlib.Omega.{arith}
use Rattle.extent_keys.specs.Key.{rank, rank_of}
use Rattle.extent_keys.proofs.key.unpack.Goals as goal

pub returns : goal.returns
unfolding rank rank_of
returns c = omega arith
