-- `hfs_lookup` meets its contract. Assumes nothing.
use mathlib.Core.Path.{ap, ◌∙◌}
use Rattle.btree.specs.declared.Lookup.{Lookup}
use Rattle.btree.specs.Numbers.{lookup_numbers}
use Rattle.extents.specs.Reader.{found_part}
use Rattle.replies.specs.Written.{data_bytes}
use Rattle.capi.proofs.hfs_lookup.Goals as goal

pub returns : goal.returns
returns c =
    let e = c.lookup-found.ensures in
    let img = c.args.image.now in record {
      numbers = c.lookup_numbers.ensures ∙ ap lookup_numbers e.equal;
      bytes = c.found_data.ensures ∙ ap (λ (r : Lookup). data_bytes img (found_part img r.answer)) e.equal;
      leaves = rw e.equal at e.leaves;
    }
