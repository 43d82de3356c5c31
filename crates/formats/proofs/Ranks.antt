-- The number of a key that stands in an image, and of one that is asked for, by the tree.
-- Assumes nothing.
use mathlib.Core.Path.{◌≡◌}
use mathlib.Core.List.{List}
use Prim.Native.Nat.{ℕ}
use Rattle.frame.specs.declared.form.Form.{Form}
use Rattle.frame.proofs.Forms.{if-zero, if-not}
use Rattle.extent_keys.specs.declared.key.SortKey.{SortKey}
use Rattle.extent_keys.specs.Key as extent
use Rattle.catalog_keys.specs.Key as catalog
use Rattle.formats.specs.Format.{rank_at}
use Rattle.formats.specs.Asked.{asked_rank}

module _ (form : Form) where
  pub rank-extents : form.tree ≡ 0 → (img : List ℕ) (at : ℕ) → rank_at form img at ≡ extent.rank (extent.key_at form img at)
  rank-extents t img at = if-zero form.tree _ _ t

  pub rank-catalog : (form.tree ≡ 0 → ⊥) → (img : List ℕ) (at : ℕ) → rank_at form img at ≡ catalog.rank (catalog.key_at img at)
  rank-catalog t img at = if-not form.tree _ _ t

  pub asked-extents : form.tree ≡ 0 → (key : SortKey) (name : List ℕ) → asked_rank form key name ≡ extent.rank_of key
  asked-extents t key name = if-zero form.tree _ _ t
