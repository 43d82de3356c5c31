-- `descent::in_leaf` meets its contract. Assumes nothing.
use mathlib.Core.Path.{sym, ap, ◌∙◌}
use borrow.Author.Tests.{eqb-true, eqb-false}
use Rattle.btree.specs.declared.Answer.TheVariants.{Found}
use Rattle.btree.specs.Header.{view_of}
use Rattle.formats.specs.Asked.{asked_rank}
use Rattle.formats.specs.Format.{view}
use Rattle.search.proofs.Narrowing.{leaf-none, leaf-has, leaf-other}
use Rattle.search.proofs.descent.in_leaf.Goals as goal

pub returns-then-end-eq0 : goal.returns-then-end-eq0
returns-then-end-eq0 c = let a = c.args in leaf-none (view a.form a.image.now) (asked_rank a.form a.key a.name.now) a.node a.end c.if-end-eq0.true

pub returns-then-asked_same : goal.returns-then-asked_same
unfolding view_of
returns-then-asked_same c =
    let a = c.args in
    let e = eqb-true _ _ (sym (rw c.record_at-last.ensures.0 at c.asked_same.ensures) ∙ c.if-asked_same.true) in
    ap Found c.record_place.ensures
    ∙ leaf-has (view a.form a.image.now) (asked_rank a.form a.key a.name.now) a.node a.end c.if-end-eq0.false e

pub returns : goal.returns
unfolding view_of
returns c =
    let a = c.args in
    let n = eqb-false _ _ (sym (rw c.record_at-last.ensures.0 at c.asked_same.ensures) ∙ c.if-asked_same.false) in
    leaf-other (view a.form a.image.now) (asked_rank a.form a.key a.name.now) a.node a.end c.if-end-eq0.false n
