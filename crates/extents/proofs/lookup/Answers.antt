-- `lookup` meets its contract. Assumes nothing.
use mathlib.Core.Path.{◌∙◌}
use Rattle.frame.specs.Form.{hfs}
use Rattle.frame.proofs.Forms.{hfs-listed}
use Rattle.editions.proofs.Editions.{lookup-listed}
use Rattle.extents.proofs.Demands.{lookup-says}
use Rattle.extents.proofs.lookup.Goals as goal

pub returns : goal.returns
returns c =
    let e = c.lookup.ensures in
    let a = c.args in record {
      equal = e.equal ∙ lookup-listed hfs a.image.now hfs-listed _ _;
      says = lookup-says _ _ _ _ (e.says.of_listed hfs-listed);
      leaves = e.leaves;
    }
