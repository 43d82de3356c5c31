-- The data of a leaf record, type by type.
-- Assumes nothing.
use mathlib.Core.Path.{◌≡◌, ◌∙◌}
use mathlib.Core.Logic.{◌≢◌}
use mathlib.Core.List.{List}
use Prim.Native.Nat.{ℕ}
use native.Mathlib.Decide.{ℕ_discrete}
use Rattle.btree.proofs.Decisions.{cond_yes, cond_no}
use Rattle.catalog_nodes.specs.Node.{data_at, type_at}
use Rattle.catalog_entries.specs.declared.Entry.TheVariants as kind
use Rattle.catalog_entries.specs.Entry.{directory_at, file_at, thread_at, entry_at}

module _ (img : List ℕ) (at : ℕ) where
  pub of-directory : type_at img at ≡ 1 → entry_at img at ≡ kind.Directory (directory_at img (data_at img at))
  unfolding entry_at
  of-directory e = cond_yes (ℕ_discrete (type_at img at) 1) _ _ e

  module _ (no1 : type_at img at ≢ 1) where
    pub of-file : type_at img at ≡ 2 → entry_at img at ≡ kind.File (file_at img (data_at img at))
    unfolding entry_at
    of-file e = cond_no (ℕ_discrete (type_at img at) 1) _ _ no1 ∙ cond_yes (ℕ_discrete (type_at img at) 2) _ _ e

    module _ (no2 : type_at img at ≢ 2) where
      pub of-directory-thread : type_at img at ≡ 3 → entry_at img at ≡ kind.DirectoryThread (thread_at img (data_at img at))
      unfolding entry_at
      of-directory-thread e =
          cond_no (ℕ_discrete (type_at img at) 1) _ _ no1
          ∙ cond_no (ℕ_discrete (type_at img at) 2) _ _ no2
          ∙ cond_yes (ℕ_discrete (type_at img at) 3) _ _ e

      pub of-file-thread : type_at img at ≢ 3 → entry_at img at ≡ kind.FileThread (thread_at img (data_at img at))
      unfolding entry_at
      of-file-thread no3 =
          cond_no (ℕ_discrete (type_at img at) 1) _ _ no1
          ∙ cond_no (ℕ_discrete (type_at img at) 2) _ _ no2
          ∙ cond_no (ℕ_discrete (type_at img at) 3) _ _ no3
