-- `hfs_catalog_lookup` meets its contract. Assumes nothing.
use mathlib.Core.Path.{ap, ◌∙◌}
use Rattle.catalog.specs.declared.answers.Lookup.{Lookup}
use Rattle.catalog.specs.Reader.{found_part}
use Rattle.replies.specs.Written.{all_bytes}
use Rattle.catalog_replies.specs.Written.{entry_numbers}
use Rattle.capi.proofs.hfs_catalog_lookup.Goals as goal

pub returns : goal.returns
returns c =
    let e = c.lookup-found.ensures in
    let img = c.args.image.now in record {
      numbers = c.entry_numbers.ensures ∙ ap entry_numbers e.equal;
      bytes = c.entry_bytes.ensures ∙ ap (λ (r : Lookup). all_bytes img (found_part img r.answer)) e.equal;
      leaves = rw e.equal at e.leaves;
    }
