-- `descent::floor` meets its contract. Assumes nothing.
use mathlib.Core.Path.{sym, ap, ◌∙◌}
use Rattle.btree.specs.declared.Answer.TheVariants.{Found}
use Rattle.btree.specs.Search.{in_leaf}
use Rattle.formats.specs.Format.{view}
use Rattle.search.proofs.Narrowing.{before-none, before-some}
use Rattle.search.proofs.descent.floor.Goals as goal

pub returns-then-r-eq0 : goal.returns-then-r-eq0
returns-then-r-eq0 c =
    let a = c.args in
    sym (ap (in_leaf (view a.form a.image.now) _) (before-none _ c.if-r-eq0.true)) ∙ c.reach-r.ensures.is_floor

pub returns : goal.returns
returns c =
    let a = c.args in
    ap Found c.record_place.ensures ∙ sym (ap (in_leaf (view a.form a.image.now) _) (before-some _ c.if-r-eq0.false)) ∙ c.reach-r.ensures.is_floor
