-- `state::first_with` meets its contract. Assumes nothing.
use Rattle.step.proofs.Links.{first-kept}
use Rattle.step.specs.State.{first_with}
use mathlib.Core.Path.{sym}
use Rattle.step.proofs.state.first_with.Goals as goal
use Rattle.step.proofs.state.first_with.Goals.{else-leaf-via-then-leaf+else-first-eq0, else-leaf-via-else-leaf}

pub returns-then-first-eq0 : goal.returns-then-first-eq0
unfolding first_with
returns-then-first-eq0 c = rw (c.if-leaf.true, c.if-first-eq0.true)

pub returns-else-leaf : goal.returns-else-leaf
unfolding first_with
returns-else-leaf c =
    elim c.else-leaf.branch [
      | else-leaf-via-then-leaf+else-first-eq0 w ↦ rw w.if-leaf.true (sym (first-kept _ _ w.if-first-eq0.false))
      | else-leaf-via-else-leaf w ↦ rw w.if-leaf.false
    ]
