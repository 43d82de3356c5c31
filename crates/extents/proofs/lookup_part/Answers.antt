-- `lookup_part` meets its contract. Assumes nothing.
use lib.ListN.{length}
use Rattle.extent_keys.specs.Key.{asked}
use Rattle.frame.specs.Form.{hfs}
use Rattle.frame.proofs.Forms.{hfs-listed}
use Rattle.editions.proofs.Editions.{lookup-listed}
use Rattle.extents.proofs.lookup_part.Goals as goal

pub returns : goal.returns
returns c =
    let a = c.args in record {
      part = rw (lookup-listed hfs a.image.now hfs-listed (asked a.file a.fork a.start) (length a.work.now)) at c.lookup_part.ensures.part;
      leaves = rw (lookup-listed hfs a.image.now hfs-listed (asked a.file a.fork a.start) (length a.work.now)) at c.lookup_part.ensures.leaves;
    }
