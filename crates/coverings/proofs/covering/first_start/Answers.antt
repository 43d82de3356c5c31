-- `covering::first_start` meets its contract. Assumes nothing.
use mathlib.Core.Path.{sym}
use native.Mathlib.Decide.{ℕ_discrete}
use Rattle.btree.proofs.Decisions.{cond_yes, cond_no}
use Rattle.coverings.specs.Covered.{first_start}
use Rattle.coverings.proofs.covering.first_start.Goals as goal

pub returns-then-fork-eq0 : goal.returns-then-fork-eq0
unfolding first_start
returns-then-fork-eq0 c = sym (cond_yes (ℕ_discrete _ 0) _ _ c.if-fork-eq0.true)

pub returns-else-fork-eq0 : goal.returns-else-fork-eq0
unfolding first_start
returns-else-fork-eq0 c = sym (cond_no (ℕ_discrete _ 0) _ _ c.if-fork-eq0.false)
