-- `data_at` meets its contract. Assumes nothing.
use mathlib.Core.Path.{ap, ◌∙◌}
use Rattle.btree.specs.Places.{image_offset}
use Rattle.frame.specs.declared.form.Form.{Form}
use Rattle.frame.specs.Form.{layout_of}
use Rattle.formats.specs.Format.{data_at}
use Rattle.extents.proofs.data_at.Goals as goal

pub returns : goal.returns
returns c =
    let a = c.args in (
      c.data_at.ensures.0 ∙ ap (λ (form : Form). data_at form a.image.now (image_offset (layout_of form) a.place)) c.of_hfs.ensures,
      c.data_at.ensures.1,
    )
