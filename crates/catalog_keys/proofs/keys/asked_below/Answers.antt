-- `keys::asked_below` meets its contract. Assumes nothing.
use mathlib.Core.Path.{◌∙◌}
use Rattle.catalog_keys.proofs.Answered.{below_by}
use Rattle.catalog_keys.proofs.keys.asked_below.Goals as goal

pub returns : goal.returns
returns c = c.is_lt.ensures ∙ below_by _ _ _ c.compare_asked.ensures.order
