-- `record::record_with` meets its contract: what is left of the records gives what all give. Assumes nothing.
use mathlib.Core.Path.{◌≡◌, sym, ap, ◌∙◌}
use native.Mathlib.Nat.{sub-zero}
use lib.Dec.{eqb}
use borrow.Author.Tests.{eqb-true, eqb-false}
use Rattle.btree.specs.Header.{view_of}
use Rattle.btree.specs.Hits.{hit_of}
use Rattle.formats.specs.Asked.{asked_rank}
use Rattle.formats.specs.Format.{view}
use Rattle.scan.proofs.Looking.{with-end, with-here, with-on}
use Rattle.scan.proofs.record.record_with.Goals as goal
use Rattle.scan.proofs.record.record_with.Goals.{After-asked_same}

-- whether record i has the asked key
same : (c : After-asked_same) → let a = c.args in
    c.asked_same.result ≡ eqb ((view a.form a.image.now).key a.node c.loop-i.i) (asked_rank a.form a.key a.name.now)
unfolding view_of
same c = rw c.record_at.ensures.0 at c.asked_same.ensures

pub loop-i-init : goal.loop-i-init
unfolding view_of
loop-i-init c = rw (← c.count_of-i-end.ensures.0, sub-zero)

pub returns-then-asked_same : goal.returns-then-asked_same
returns-then-asked_same c =
    let a = c.args in
    let e = eqb-true _ _ (sym (same (goal.at.returns-then-asked_same c).After-asked_same) ∙ c.if-asked_same.true) in
    sym (ap hit_of (c.loop-i.invariant ∙ with-here (view a.form a.image.now) _ _ _ _ c.loop-i-test.true e))

pub loop-i-preserved : goal.loop-i-preserved
loop-i-preserved c =
    let a = c.args in
    let n = same (goal.at.loop-i-preserved c).After-asked_same in
    (c.loop-i.invariant ∙ with-on (view a.form a.image.now) _ _ _ _ c.loop-i-test.true (eqb-false _ _ (sym n ∙ c.if-asked_same.false)))

pub returns : goal.returns
returns c = let a = c.args in sym (ap hit_of (c.loop-i.invariant ∙ with-end (view a.form a.image.now) _ _ _ _ c.loop-i-test.false))
