-- `key::is_lawful` meets its contract. Assumes nothing.
use mathlib.Core.Logic.{inl, inr, ⊎_elim}
use mathlib.Core.Path.{sym, ◌∙◌}
use borrow.Author.Tests.{eq-eqb}
use Rattle.btree.proofs.Decisions.{says-yes, says-equal}
use Rattle.extent_keys.specs.Key.{dec_lawful}
use Rattle.extent_keys.proofs.key.is_lawful.Goals as goal

pub returns-then-fork-eq0 : goal.returns-then-fork-eq0
returns-then-fork-eq0 c = let e = c.if-fork-eq0.true in eq-eqb _ _ e ∙ sym (says-yes (dec_lawful _) (inl e))

pub returns-else-fork-eq0 : goal.returns-else-fork-eq0
returns-else-fork-eq0 c = says-equal (dec_lawful _) _ _ inr (⊎_elim (λ e. absurd (c.if-fork-eq0.false e)) (λ e. e))
