-- `weights::character_order` meets its contract: the table of the code is that of the definitions. Assumes nothing.
use mathlib.Core.Path.{refl}
use Rattle.catalog_keys.specs.Weights.{weights}
use Rattle.catalog_keys.proofs.weights.character_order.Goals as goal

pub returns : goal.returns
unfolding weights
returns c = refl
