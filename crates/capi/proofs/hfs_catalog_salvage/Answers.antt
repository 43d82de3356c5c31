-- `hfs_catalog_salvage` meets its contract. Assumes nothing.
use mathlib.Core.Path.{ap, ◌∙◌}
use Rattle.catalog.specs.declared.answers.Salvage.{Salvage}
use Rattle.catalog.specs.Reader.{seen_part}
use Rattle.replies.specs.Written.{all_bytes}
use Rattle.catalog_replies.specs.Written.{seen_numbers}
use Rattle.capi.proofs.hfs_catalog_salvage.Goals as goal

pub returns : goal.returns
returns c =
    let img = c.args.image.now in record {
      numbers = c.seen_numbers.ensures ∙ ap seen_numbers c.salvage-seen.ensures.equal;
      bytes = c.seen_entry_bytes.ensures ∙ ap (λ (r : Salvage). all_bytes img (seen_part img r)) c.salvage-seen.ensures.equal;
    }
