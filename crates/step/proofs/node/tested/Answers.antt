-- what each test that passed says
use mathlib.Core.Bool.{true}
use mathlib.Core.Path.{◌≡◌, sym, ◌∙◌}
use native.Mathlib.Decide.{ℕ_discrete}
use Rattle.btree.proofs.First.{fault4, fault7-back, fault7-forward, no-fault}
use Rattle.btree.proofs.Decisions.{says-yes, says-no}
use Rattle.btree.specs.Header.{view_of}
use Rattle.btree.specs.Decide.{says}
use Rattle.formats.specs.Format.{view}
use Rattle.step.proofs.node.tested.Goals as goal
use Rattle.step.proofs.node.tested.Goals.{Else-back_of-p}

back : (c : Else-back_of-p) → let a = c.args in says (ℕ_discrete ((view a.form a.image.now).back a.e.node) a.p) ≡ true
unfolding view_of
back c = says-yes (ℕ_discrete _ _) (sym c.back_of.ensures ∙ c.if-back_of-p.false)

pub returns-then-not-fresh : goal.returns-then-not-fresh
returns-then-not-fresh c = sym (fault4 _ _ _ _ c.if-not-fresh.true)

pub returns-then-back_of-p : goal.returns-then-back_of-p
unfolding view_of
returns-then-back_of-p c =
    let f = c.in_ok-formed.ensures in
    rw c.at_byte.ensures (sym (fault7-back _ _ _ _ c.if-not-fresh.false f.right f.ordered (says-no (ℕ_discrete _ _) (λ z. c.if-back_of-p.true (c.back_of.ensures ∙ z)))))

pub returns-then-not-leads : goal.returns-then-not-leads
returns-then-not-leads c =
    let f = c.in_ok-formed.ensures in
    rw c.at_byte-then-not-leads.ensures
    (sym (fault7-forward _ _ _ _ c.if-not-fresh.false f.right f.ordered (back (goal.at.returns-then-not-leads c).Else-back_of-p) (sym c.leads.ensures ∙ c.if-not-leads.true)))

pub returns : goal.returns
returns c =
    let f = c.in_ok-formed.ensures in
    sym (no-fault _ _ _ _ c.if-not-fresh.false f.right f.ordered (back (goal.at.returns c).Else-back_of-p) (sym c.leads.ensures ∙ c.if-not-leads.false))
