-- `salvage_part` meets its contract. Assumes nothing.
use Rattle.frame.specs.Form.{hfs}
use Rattle.frame.proofs.Forms.{hfs-listed}
use Rattle.editions.proofs.Editions.{salvage-listed}
use Rattle.extents.proofs.salvage_part.Goals as goal

pub returns : goal.returns
returns c = let a = c.args in rw (← salvage-listed hfs a.image.now hfs-listed _) c.salvage_part.ensures
