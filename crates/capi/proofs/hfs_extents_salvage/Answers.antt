-- `hfs_extents_salvage` meets its contract. Assumes nothing.
use mathlib.Core.Path.{sym, ap, ◌∙◌}
use Rattle.btree.specs.declared.Salvage.{Salvage}
use Rattle.btree.specs.Numbers.{reply_numbers, salvage_reply}
use Rattle.frame.specs.Form.{form_of}
use Rattle.frame.proofs.Forms.{fair}
use Rattle.reader.specs.Reader.{seen_part}
use Rattle.editions.proofs.Editions.{seen-listed}
use Rattle.replies.specs.Written.{wide_bytes}
use Rattle.capi.proofs.hfs_extents_salvage.Goals as goal

pub seen_wide-requires : goal.seen_wide-requires
seen_wide-requires c =
    let a = c.args in
    λ p e. fair _ (seen-listed (form_of a.edition a.size) a.image.now _ p (sym c.salvage-seen.ensures.equal ∙ e))

pub returns : goal.returns
returns c =
    let a = c.args in record {
      numbers = c.salvage_reply.ensures ∙ ap (λ (r : Salvage). reply_numbers (salvage_reply r)) c.salvage-seen.ensures.equal;
      bytes = c.seen_wide.ensures ∙ ap (λ (r : Salvage). wide_bytes a.image.now (seen_part (form_of a.edition a.size) a.image.now r)) c.salvage-seen.ensures.equal;
    }
