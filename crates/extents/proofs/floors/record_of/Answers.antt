-- `floors::record_of` meets its contract. Assumes nothing.
use mathlib.Core.Path.{◌≡◌, ap, ◌∙◌}
use Rattle.btree.specs.Places.{image_offset}
use Rattle.frame.specs.declared.form.Form.{Form}
use Rattle.frame.specs.Form.{hfs, layout_of, key_size}
use Rattle.extent_keys.specs.Key.{key_at}
use Rattle.extents.specs.Floor.{record_of}
use Rattle.extents.proofs.floors.record_of.Goals as goal

pub returns : goal.returns
unfolding record_of key_at key_size
returns c =
    let a = c.args in
    let e : c.place_at-at.result ≡ image_offset (layout_of hfs) a.place = c.place_at-at.ensures.0 ∙ ap (λ (form : Form). image_offset (layout_of form) a.place) c.of_hfs.ensures in
    rw (← e) cc
