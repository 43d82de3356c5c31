-- What holds of each form that the code goes by, and which edition and which tree its numbers mean.
-- Assumes nothing.
use Rattle.std.specs.Prelude.{◌≡◌, ℕ, ◌≤◌}
use Rattle.frame.specs.declared.form.FormNumbers.{FormNumbers}
use Rattle.frame.specs.declared.form.Edition.{Edition}
use Rattle.frame.specs.declared.form.Edition.TheVariants.{Hfs, HfsPlus}
use Rattle.frame.specs.declared.form.Tree.{Tree}
use Rattle.frame.specs.declared.form.Tree.TheVariants.{Extents, Catalog}

abbrev pub Sized : FormNumbers → Type 0
Sized n = (512 ≤ n.size) × (n.size ≤ 32768)

-- 0 means HFS, and each other number is read as HFS Plus
abbrev pub IsEdition : Edition → ℕ → Type 0
IsEdition Hfs n = 0 ≡ n
IsEdition HfsPlus n = n ≡ 0 → ⊥

-- 0 means the extents overflow file, and each other number is read as the catalog
abbrev pub IsTree : Tree → ℕ → Type 0
IsTree Extents n = 0 ≡ n
IsTree Catalog n = n ≡ 0 → ⊥
