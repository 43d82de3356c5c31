-- `form::key_length` meets its contract. Assumes nothing.
use mathlib.Core.Path.{refl, sym, ◌∙◌}
use Rattle.frame.specs.Form.{key_length}
use Rattle.frame.proofs.Forms.{if-zero, if-not}
use Rattle.frame.proofs.form.key_length.Goals as goal

pub returns-in-Catalog-default : goal.returns-in-Catalog-default
unfolding key_length
returns-in-Catalog-default c = sym (if-not _ _ 37 c.in-Catalog-default.ensures)

pub returns-in-Extents-Hfs : goal.returns-in-Extents-Hfs
unfolding key_length
returns-in-Extents-Hfs c = rw (← c.in-Extents-Hfs.ensures, ← c.in-Extents-Hfs.ensures') refl

pub returns-in-Extents-HfsPlus : goal.returns-in-Extents-HfsPlus
unfolding key_length
returns-in-Extents-HfsPlus c = sym (if-zero _ _ 37 (sym c.in-Extents-HfsPlus.ensures) ∙ if-not _ 7 10 c.in-Extents-HfsPlus.ensures')
