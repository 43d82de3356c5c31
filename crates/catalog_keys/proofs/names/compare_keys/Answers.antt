-- `names::compare_keys` meets its contract. Assumes nothing.
use mathlib.Core.Path.{sym, ◌∙◌}
use Rattle.catalog_keys.specs.Key.{compared}
use Rattle.catalog_keys.proofs.Answered.{number-apart, ranked-on}
use Rattle.catalog_keys.proofs.names.compare_keys.Goals as goal

pub returns-then-is_ne : goal.returns-then-is_ne
unfolding compared
returns-then-is_ne c = number-apart _ _ _ _ c.cmp-parents.ensures c.if-is_ne.ensures

pub returns : goal.returns
unfolding compared
returns c = c.compare_names.ensures ∙ sym (ranked-on _ _ _ _ c.cmp-parents.ensures c.if-is_ne.ensures)
