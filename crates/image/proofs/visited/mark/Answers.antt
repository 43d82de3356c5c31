-- `visited::mark` meets its contract: it sets the bit of n where there is one. Assumes nothing.
use mathlib.Core.Path.{refl, sym}
use Rattle.image.specs.Set.{with_bit}
use Rattle.image.proofs.Laws.{mark-beyond}
use Rattle.image.proofs.visited.mark.Goals as goal

pub returns-then-at-bits : goal.returns-then-at-bits
unfolding with_bit
returns-then-at-bits c = refl

pub returns-else-at-bits : goal.returns-else-at-bits
returns-else-at-bits c = sym (mark-beyond _ _ c.if-at-bits.false)
