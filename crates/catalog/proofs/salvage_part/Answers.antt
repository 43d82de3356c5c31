-- `salvage_part` meets its contract. Assumes nothing.
use mathlib.Core.Path.{subst}
use Rattle.catalog_keys.specs.Key.{asked}
use Rattle.reader.specs.Reader.{Part}
use Rattle.catalog.specs.Demands.{PartOf}
use Rattle.catalog.proofs.Asked.{seen-part}
use Rattle.catalog.proofs.salvage_part.Goals as goal

pub returns : goal.returns
returns c =
    let a = c.args in
    let img = a.image.now in
    let q = asked a.parent a.name.now in
    let e = seen-part _ c.of_catalog.ensures img q _ c.is_short-lawful.ensures c.sort_key.result c.sort_key.ensures in
    subst (λ (p : Part). PartOf a.image c.salvage_part.result p) e c.salvage_part.ensures
