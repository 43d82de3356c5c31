-- `node::leads` meets its contract. Assumes nothing.
use Rattle.step.proofs.Links.{leads-test}
use Rattle.btree.proofs.Decisions.{says-yes}
use Rattle.btree.specs.Header.{view_of}
use Rattle.btree.specs.Walk.{dec_leads}
use Rattle.formats.specs.Format.{view}
use mathlib.Core.Path.{sym, ◌∙◌}
use borrow.Author.Tests.{eq-eqb}
use Rattle.step.proofs.node.leads.Goals as goal

pub returns-then-p-eq0 : goal.returns-then-p-eq0
returns-then-p-eq0 c = eq-eqb _ _ c.if-p-eq0.true ∙ sym (says-yes (dec_leads (view c.args.form c.args.image.now) c.args.p c.args.node) (λ z. absurd (z c.if-p-eq0.true)))

pub returns-else-p-eq0 : goal.returns-else-p-eq0
unfolding view_of
returns-else-p-eq0 c = rw c.forward_of.ensures (leads-test (view c.args.form c.args.image.now) c.args.p c.args.node c.if-p-eq0.false)
