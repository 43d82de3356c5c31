-- `form::is_listed` meets its contract. Assumes nothing.
use mathlib.Core.Path.{sym}
use mathlib.Core.Logic.{inl, inr, ⊎_elim}
use native.Mathlib.Omega.{arith}
use Rattle.btree.proofs.Decisions.{says-yes, says-no, says-equal}
use Rattle.frame.specs.Form.{dec_listed}
use Rattle.frame.proofs.Forms.{members, keyed}
use Rattle.frame.proofs.form.is_listed.Goals as goal

pub returns-in-0 : goal.returns-in-0
returns-in-0 c = says-equal (dec_listed _) _ _ (λ e. inl (c.in-0.is, e)) (⊎_elim (λ (a, b). b) (λ (a, b). absurd (omega arith)))

pub returns-in-512 : goal.returns-in-512
returns-in-512 c = sym (says-yes (dec_listed _) (inr (c.in-1.is, members 512 _ _ c.in-512.is)))

pub returns-in_default-size : goal.returns-in_default-size
returns-in_default-size c = sym (says-no (dec_listed _) (⊎_elim (λ (a, b). omega arith) (λ (a, m). c.in_default-size.in_default-size-own.rest.1 (keyed 512 _ _ m))))

pub returns-in_default : goal.returns-in_default
returns-in_default c = sym (says-no (dec_listed _) (⊎_elim (λ (a, b). omega arith) (λ (a, m). omega arith)))
