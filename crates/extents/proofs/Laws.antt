-- What the call for the highest key not above another has to do with the check: the laws by which crates above use the two definitions.
-- Assumes nothing.
use mathlib.Core.Path.{◌≡◌, refl, sym, ◌∙◌}
use mathlib.Core.Logic.{◌≢◌}
use mathlib.Core.List.{List}
use Prim.Native.Nat.{ℕ}
use native.Mathlib.Omega.{arith}
use native.Mathlib.Decide.{ℕ_discrete}
use Rattle.btree.specs.declared.Answer.{Answer}
use Rattle.btree.specs.declared.Answer.TheVariants as answer
use Rattle.btree.specs.declared.Place.{Place}
use Rattle.btree.specs.Search.{floor_of}
use Rattle.btree.proofs.Floors.{floor-answers}
use Rattle.btree.proofs.Checked.{check-says}
use Rattle.frame.specs.Form.{hfs, layout_of}
use Rattle.frame.proofs.Forms.{hfs-listed, fair, fits}
use Rattle.extent_keys.specs.declared.key.Key.{Key}
use Rattle.extent_keys.specs.Key.{Lawful, rank}
use Rattle.formats.specs.Format.{format_of}
use Rattle.extents.specs.declared.floors.Floor.TheVariants.{Refused}
use Rattle.extents.specs.Reader.{view, checked, CheckSays, Leaves}
use Rattle.extents.specs.Floor.{floor_reply, floored_as, floored}
use Rattle.extents.proofs.Highest.{floored-refused, floored-answers, ascends}

module _ (img : List ℕ) (lent : ℕ) where
  pub checked-says : CheckSays img lent (checked img lent)
  checked-says = check-says (layout_of hfs) img (format_of hfs) lent (fits hfs (fair hfs hfs-listed)) (checked img lent) refl

  module _ (k : Key) (lawful : Lawful k.fork) where
    -- it refuses as the check refuses, and only so
    pub floored-never : (checked img lent).number ≡ 0 → (number : ℕ) (place : Place) → floored img k lent ≢ Refused number place
    floored-never z number place e = go (floor_of (view img) (rank k)) (floor-answers (view img) (rank k)) (sym (floored-answers img k lent lawful z) ∙ e)
      where
        go : (a : Answer) → ((n : ℕ) (p : Place) → a ≡ answer.Refused n p → ⊥) → floored_as img a ≡ Refused number place → ⊥
        go (answer.Found p) f w = let y : ◌≡◌ {A = ℕ} 0 1 = cc in omega arith
        go (answer.Absent n) f w = let y : ◌≡◌ {A = ℕ} 0 1 = cc in omega arith
        go (answer.Refused n p) f w = f n p refl

    -- it leaves in the working bytes what the check does
    pub floored-left : (entry exit : List ℕ) → Leaves img (floor_reply (floored img k lent)).number entry exit → Leaves img (checked img lent).number entry exit
    floored-left entry exit w = go (ℕ_discrete (checked img lent).number 0)
      where
        go : Dec ((checked img lent).number ≡ 0) → Leaves img (checked img lent).number entry exit
        go (no z) = rw (floored-refused img k lent lawful z) at w
        go (yes z) = rw z (ascends img (rank k) entry exit (rw (floored-answers img k lent lawful z) at w))
