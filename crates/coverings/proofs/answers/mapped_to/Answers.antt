-- `answers::mapped_to` meets its contract. Assumes nothing.
use mathlib.Core.Path.{sym}
use native.Mathlib.Omega.{arith}
use native.Mathlib.Decide.{dec_le}
use Rattle.btree.proofs.Decisions.{cond_yes, cond_no}
use Rattle.coverings.specs.Answers.{mapped_to}
use Rattle.coverings.proofs.answers.mapped_to.Goals as goal

pub returns-then-volume-gt65535 : goal.returns-then-volume-gt65535
unfolding mapped_to
returns-then-volume-gt65535 c = rw c.number.ensures (sym (cond_no (dec_le _ _) _ _ (λ h. omega (arith, c.if-volume-gt65535.true))))

pub returns : goal.returns
unfolding mapped_to
returns c = sym (cond_yes (dec_le _ _) _ _ (omega (arith, c.if-volume-gt65535.false)))
