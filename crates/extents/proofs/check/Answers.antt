-- `check` meets its contract. Assumes nothing.
use mathlib.Core.Path.{◌∙◌}
use Rattle.frame.specs.Form.{hfs}
use Rattle.frame.proofs.Forms.{hfs-listed}
use Rattle.editions.proofs.Editions.{check-listed}
use Rattle.extents.proofs.check.Goals as goal

pub returns : goal.returns
returns c =
    let e = c.check.ensures in
    let a = c.args in record {
      equal = e.equal ∙ check-listed hfs a.image.now hfs-listed _;
      says = e.says.of_listed hfs-listed;
      leaves = e.leaves;
    }
