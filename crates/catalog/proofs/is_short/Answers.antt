-- `is_short` meets its contract. Assumes nothing.
use native.Mathlib.Decide.{dec_le}
use Rattle.btree.proofs.Decisions.{says-most}
use Rattle.catalog.proofs.is_short.Goals as goal

pub returns : goal.returns
returns c = says-most (dec_le _ _) _ _ (λ h. h) (λ h. h)
