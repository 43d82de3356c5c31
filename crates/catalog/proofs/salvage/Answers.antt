-- `salvage` meets its contract. Assumes nothing.
use mathlib.Core.Path.{sym, ap, subst, ◌∙◌}
use Rattle.frame.specs.Form.{catalog}
use Rattle.catalog_keys.specs.Key.{asked}
use Rattle.reader.proofs.Matches as matches
use Rattle.catalog.specs.declared.answers.Salvage.{Salvage}
use Rattle.catalog.specs.Asked.{of_key}
use Rattle.catalog.specs.Answers.{seen_as}
use Rattle.catalog.specs.Demands.{SalvageSays}
use Rattle.catalog.proofs.Asked.{means, asked-salvage}
use Rattle.catalog.proofs.Demands.{salvage-says}
use Rattle.catalog.proofs.salvage.Goals as goal

pub returns : goal.returns
returns c =
    let a = c.args in
    let img = a.image.now in
    let q = asked a.parent a.name.now in
    let e = asked-salvage _ c.of_catalog.ensures img q _ c.is_short-lawful.ensures c.sort_key.result c.sort_key.ensures _ c.salvage-seen.ensures in
    let r = c.seen_as.ensures ∙ ap (seen_as img) e in record {
      equal = r;
      says = subst (λ (x : Salvage). SalvageSays img q x) (sym r) (salvage-says img q _ (matches.salvage-says catalog img (of_key q) (means img q)));
    }
