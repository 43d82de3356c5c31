-- `keys::asked_same` meets its contract. Assumes nothing.
use mathlib.Core.Path.{◌∙◌}
use Rattle.catalog_keys.proofs.Answered.{same_other}
use Rattle.catalog_keys.proofs.keys.asked_same.Goals as goal

pub returns : goal.returns
returns c = c.is_eq.ensures ∙ same_other _ _ _ c.compare_asked.ensures.order
