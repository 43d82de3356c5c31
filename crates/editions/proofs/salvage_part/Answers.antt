-- `salvage_part` meets its contract. Assumes nothing.
use Rattle.frame.specs.Form.{form_of}
use Rattle.frame.proofs.Forms.{fair}
use Rattle.extent_keys.specs.Key.{asked}
use Rattle.editions.proofs.Asked.{asked-salvage}
use Rattle.editions.proofs.Editions.{salvage-listed, salvage-unlisted}
use Rattle.editions.proofs.salvage_part.Goals as goal

pub returns-in-None : goal.returns-in-None
returns-in-None c =
    let a = c.args in
    rw (salvage-unlisted (form_of a.edition a.size) a.image.now c.in-None.ensures _) c.no_part-in-None.ensures

pub salvage_part-requires : goal.salvage_part-requires
salvage_part-requires c = rw c.in-Some.ensures.1 (fair _ c.in-Some.ensures.0)

pub returns-in-Some : goal.returns-in-Some
returns-in-Some c =
    let a = c.args in
    let l = c.in-Some.ensures in
    let e = asked-salvage a.edition a.size a.image.now (asked a.file a.fork a.start) _ _ c.is_lawful-lawful.ensures c.sort_key-key.ensures in
    rw (salvage-listed (form_of a.edition a.size) a.image.now l.0 _, ← e) (rw l.1 at c.salvage_part.ensures)
