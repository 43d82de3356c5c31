-- `closing::closing_tests` meets its contract: what is left of the levels gives what all give. Assumes nothing.
use Rattle.btree.proofs.First.{unless-true, unless-false}
use Rattle.walk.proofs.Ends.{closing-start, ends-end, ends_on, ends-stop}
use Rattle.step.specs.State.{last_at}
use Rattle.btree.specs.Header.{view_of}
use Rattle.formats.specs.Format.{view}
use Prim.Native.Nat.{pred}
use native.Mathlib.Omega.{arith}
use mathlib.Core.Path.{◌≡◌, sym, ap, ◌∙◌}
use Rattle.walk.proofs.closing.closing_tests.Goals as goal
use Rattle.walk.proofs.closing.closing_tests.Goals.{After-last_on-last}

-- the last leaf, as the theory has it
last_leaf : (c : After-last_on-last) → c.last_on-last.result ≡ last_at c.args.w (pred (view c.args.form c.args.image.now).depth)
unfolding view_of
last_leaf c = c.last_on-last.ensures ∙ ap (last_at c.args.w) (omega (arith, c.saturating_sub.ensures, c.be16-depth.ensures.0))

pub loop-d-init : goal.loop-d-init
unfolding view_of
loop-d-init c = closing-start (view c.args.form c.args.image.now) c.args.w _ c.be16-depth.ensures.0

pub last_on-p-requires : goal.last_on-p-requires
unfolding view_of
last_on-p-requires c = omega (arith, c.be16-depth.ensures.0, c.requires)

pub returns-then-not-leads : goal.returns-then-not-leads
returns-then-not-leads c =
    rw (c.at_byte.ensures, c.last_on-p.ensures)
    (sym (c.loop-d.invariant ∙ ends-stop _ _ _ _ _ (omega arith) (rw (← c.last_on-p.ensures) (sym c.leads.ensures ∙ c.if-not-leads.true))))

pub loop-d-preserved : goal.loop-d-preserved
loop-d-preserved c = c.loop-d.invariant ∙ ends_on _ _ _ _ _ (omega arith) (rw (← c.last_on-p.ensures) (sym c.leads.ensures ∙ c.if-not-leads.false))

pub last_on-last-requires : goal.last_on-last-requires
unfolding view_of
last_on-last-requires c = omega (arith, c.saturating_sub.ensures, c.be16-depth.ensures.0, c.requires)

pub returns-then-not-totals_right : goal.returns-then-not-totals_right
returns-then-not-totals_right c =
    rw c.at_node.ensures
    (sym (c.loop-d.invariant ∙ ends-end _ _ _ _ _ (omega arith) ∙ unless-false _ _ _ (rw (last_leaf (goal.at.returns-then-not-totals_right c).After-last_on-last) at (sym (c.totals_right.ensures c.args.form) ∙ c.if-not-totals_right.true))))

pub returns : goal.returns
returns c =
    sym (c.loop-d.invariant ∙ ends-end _ _ _ _ _ (omega arith) ∙ unless-true _ _ _ (rw (last_leaf (goal.at.returns c).After-last_on-last) at (sym (c.totals_right.ensures c.args.form) ∙ c.if-not-totals_right.false)))
