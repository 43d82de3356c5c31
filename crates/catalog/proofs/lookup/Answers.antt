-- `lookup` meets its contract. Assumes nothing.
use mathlib.Core.Path.{refl, sym, ap, subst, ◌∙◌}
use lib.ListN.{length}
use Rattle.frame.specs.Form.{catalog}
use Rattle.catalog_keys.specs.Key.{asked}
use Rattle.reader.proofs.Demands as demands
use Rattle.catalog.specs.declared.answers.Answer.{Answer}
use Rattle.catalog.specs.declared.answers.Lookup.{Lookup}
use Rattle.catalog.specs.Asked.{of_key}
use Rattle.catalog.specs.Answers.{answered}
use Rattle.catalog.specs.Demands.{LookupSays}
use Rattle.catalog.proofs.Asked.{catalog-fair, means, asked-lookup}
use Rattle.catalog.proofs.Demands.{lookup-says}
use Rattle.catalog.proofs.lookup.Goals as goal

pub returns-clause-equal : goal.returns-clause-equal
returns-clause-equal c =
    let a = c.args in
    let img = a.image.now in
    let q = asked a.parent a.name.now in
    let e = asked-lookup _ c.of_catalog.ensures img q _ c.is_short-lawful.ensures c.sort_key.result c.sort_key.ensures _ _ c.lookup-found.ensures.equal in
    ap (λ (x : Answer). record { answer = x; path = c.lookup-found.result.path; compared = c.lookup-found.result.compared }) c.answered_as.ensures ∙ ap (answered img) e

pub returns-clause-says : goal.returns-clause-says
returns-clause-says c =
    let a = c.args in
    let img = a.image.now in
    let q = asked a.parent a.name.now in
    subst (λ (x : Lookup). LookupSays img q (length a.work.now) x) (sym (returns-clause-equal c)) (lookup-says img q _ _ (demands.lookup-says catalog (catalog-fair catalog refl) img (of_key q) _ (means img q)))
