-- `closing::totals_right` meets its contract. Assumes nothing.
use Rattle.walk.proofs.Ends.{totals-test}
use Rattle.btree.specs.Walk.{dec_totals}
use Rattle.btree.proofs.Decisions.{says-no}
use Rattle.btree.specs.Header.{view_of}
use mathlib.Core.Path.{sym, ◌∙◌}
use Rattle.formats.specs.Format.{view}
use Rattle.walk.proofs.closing.totals_right.Goals as goal

pub returns-then-be32-first : goal.returns-then-be32-first
unfolding view_of
returns-then-be32-first c f = sym (says-no (dec_totals (view f c.args.image.now) c.args.first c.args.last c.args.records) (λ t. c.if-be32-first.true (c.be32.ensures ∙ t.first)))

pub returns-then-be32-last : goal.returns-then-be32-last
unfolding view_of
returns-then-be32-last c f = sym (says-no (dec_totals (view f c.args.image.now) c.args.first c.args.last c.args.records) (λ t. c.if-be32-last.true (c.be32-2.ensures ∙ t.last)))

pub returns : goal.returns
unfolding view_of
returns c f = rw c.be32-3.ensures (totals-test (view f c.args.image.now) _ _ _ (sym c.be32.ensures ∙ c.if-be32-first.false) (sym c.be32-2.ensures ∙ c.if-be32-last.false))
