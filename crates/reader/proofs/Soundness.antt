-- The verdict on an image names no fault exactly when the image is sound.
-- Assumes nothing.
use mathlib.Core.Path.{◌≡◌}
use mathlib.Core.Logic.{◌↔◌}
use mathlib.Core.List.{List}
use Prim.Native.Nat.{ℕ}
use Rattle.btree.specs.Walk.{fine}
use Rattle.btree.proofs.Soundness as theory
use Rattle.frame.specs.declared.form.Form.{Form}
use Rattle.frame.specs.Form.{layout_of, Fair}
use Rattle.frame.proofs.Forms.{fits}
use Rattle.formats.specs.Format.{format_of}
use Rattle.reader.specs.Reader.{Sound, verdict}

pub verdict-iff : (form : Form) → Fair form → (img : List ℕ) → (verdict form img ≡ fine) ↔ Sound form img
verdict-iff form fair img = theory.verdict-iff (layout_of form) (fits form fair) img (format_of form)
