-- `salvage` meets its contract. Assumes nothing.
use mathlib.Core.Path.{◌∙◌}
use Rattle.frame.specs.Form.{hfs}
use Rattle.frame.proofs.Forms.{hfs-listed}
use Rattle.editions.proofs.Editions.{salvage-listed}
use Rattle.extents.proofs.salvage.Goals as goal

pub returns : goal.returns
returns c =
    let e = c.salvage.ensures in
    let a = c.args in record {
      equal = e.equal ∙ salvage-listed hfs a.image.now hfs-listed _;
      says = e.says.of_listed hfs-listed;
    }
