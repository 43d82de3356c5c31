-- `form::key_size` meets its contract. Assumes nothing.
use mathlib.Core.Path.{refl, sym, ◌∙◌}
use native.Mathlib.Omega.{arith}
use Rattle.frame.specs.Form.{key_size}
use Rattle.frame.proofs.Forms.{if-zero, if-not}
use Rattle.frame.proofs.form.key_size.Goals as goal

pub returns-in-Catalog-default : goal.returns-in-Catalog-default
unfolding key_size
returns-in-Catalog-default c = (sym (if-not _ _ 38 c.in-Catalog-default.ensures), omega arith)

pub returns-in-Extents-Hfs : goal.returns-in-Extents-Hfs
unfolding key_size
returns-in-Extents-Hfs c = (rw (← c.in-Extents-Hfs.ensures, ← c.in-Extents-Hfs.ensures') refl, omega arith)

pub returns-in-Extents-HfsPlus : goal.returns-in-Extents-HfsPlus
unfolding key_size
returns-in-Extents-HfsPlus c = (sym (if-zero _ _ 38 (sym c.in-Extents-HfsPlus.ensures) ∙ if-not _ 8 12 c.in-Extents-HfsPlus.ensures'), omega arith)
