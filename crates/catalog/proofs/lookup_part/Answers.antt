-- `lookup_part` meets its contract. Assumes nothing.
use mathlib.Core.Path.{subst}
use Rattle.catalog_keys.specs.Key.{asked}
use Rattle.reader.specs.Reader.{Part}
use Rattle.catalog.specs.Demands.{PartOf}
use Rattle.catalog.proofs.Asked.{found_part-asked, found-leaves}
use Rattle.catalog.proofs.lookup_part.Goals as goal

pub returns : goal.returns
returns c =
    let a = c.args in
    let img = a.image.now in
    let q = asked a.parent a.name.now in
    let form = c.of_catalog.ensures in
    let e = c.lookup_part.ensures in record {
      part = subst (λ (p : Part). PartOf a.image c.lookup_part.result p) (found_part-asked _ form img q _ c.is_short-lawful.ensures c.sort_key.result c.sort_key.ensures _) e.part;
      leaves = found-leaves _ form img q _ c.is_short-lawful.ensures c.sort_key.result c.sort_key.ensures _ _ _ e.leaves;
    }
