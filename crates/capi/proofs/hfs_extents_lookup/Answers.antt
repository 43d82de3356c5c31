-- `hfs_extents_lookup` meets its contract. Assumes nothing.
use mathlib.Core.Path.{sym, ap, ◌∙◌}
use Rattle.btree.specs.declared.Lookup.{Lookup}
use Rattle.btree.specs.Numbers.{lookup_numbers}
use Rattle.frame.specs.Form.{form_of}
use Rattle.frame.proofs.Forms.{fair}
use Rattle.reader.specs.Reader.{found_part}
use Rattle.editions.proofs.Editions.{found-listed}
use Rattle.replies.specs.Written.{wide_bytes}
use Rattle.capi.proofs.hfs_extents_lookup.Goals as goal

pub found_wide-requires : goal.found_wide-requires
found_wide-requires c =
    let a = c.args in
    λ p e. fair _ (found-listed (form_of a.edition a.size) a.image.now _ _ p (sym (ap (λ (r : Lookup). r.answer) c.lookup-found.ensures.equal) ∙ e))

pub returns : goal.returns
returns c =
    let e = c.lookup-found.ensures in
    let a = c.args in record {
      numbers = c.lookup_numbers.ensures ∙ ap lookup_numbers e.equal;
      bytes = c.found_wide.ensures ∙ ap (λ (r : Lookup). wide_bytes a.image.now (found_part (form_of a.edition a.size) a.image.now r.answer)) e.equal;
      leaves = rw e.equal at e.leaves;
    }
