-- `keys::same_at` meets its contract. Assumes nothing.
use mathlib.Core.Path.{◌∙◌}
use Rattle.catalog_keys.proofs.Answered.{same_by}
use Rattle.catalog_keys.proofs.keys.same_at.Goals as goal

pub returns : goal.returns
returns c = c.is_eq.ensures ∙ same_by _ _ _ c.compare.ensures.order
