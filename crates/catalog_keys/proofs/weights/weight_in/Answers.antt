-- `weights::weight_in` meets its contract. Assumes nothing.
use native.Mathlib.Omega.{arith}
use Rattle.catalog_keys.specs.Weights.{weight}
use Rattle.catalog_keys.proofs.weights.weight_in.Goals as goal

pub returns : goal.returns
unfolding weight
returns c = grind arith
