-- `hfs_salvage` meets its contract. Assumes nothing.
use mathlib.Core.Path.{ap, ◌∙◌}
use Rattle.btree.specs.declared.Salvage.{Salvage}
use Rattle.btree.specs.Numbers.{salvage_reply, reply_numbers}
use Rattle.extents.specs.Reader.{seen_part}
use Rattle.replies.specs.Written.{data_bytes}
use Rattle.capi.proofs.hfs_salvage.Goals as goal

pub returns : goal.returns
returns c =
    let img = c.args.image.now in record {
      numbers = c.salvage_reply.ensures ∙ ap (λ (r : Salvage). reply_numbers (salvage_reply r)) c.salvage-seen.ensures.equal;
      bytes = c.seen_data.ensures ∙ ap (λ (r : Salvage). data_bytes img (seen_part img r)) c.salvage-seen.ensures.equal;
    }
