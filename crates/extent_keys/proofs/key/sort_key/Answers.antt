-- `key::sort_key` meets its contract. Assumes nothing.
use native.Mathlib.Omega.{arith}
use Rattle.extent_keys.specs.Key.{rank, rank_of}
use Rattle.extent_keys.proofs.key.sort_key.Goals as goal

pub returns : goal.returns
unfolding rank rank_of
returns c = omega arith
