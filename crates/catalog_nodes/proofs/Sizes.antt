-- Sizes by the kind of a node, and by the type of a record.
-- Assumes nothing.
use mathlib.Core.Path.{◌≡◌, refl}
use mathlib.Core.Logic.{◌≢◌}
use mathlib.Core.List.{List}
use Prim.Native.Nat.{ℕ, zero, suc, ◌+◌, ◌%◌, ◌≤◌}
use native.Mathlib.Omega.{arith}
use native.Mathlib.Decide.{ℕ_discrete}
use Rattle.btree.specs.Decide.{cond}
use Rattle.btree.proofs.Decisions.{cond_yes, cond_no}
use Rattle.frame.specs.Kinds.{leaf_kind}
use Rattle.catalog_nodes.specs.Node.{max_records, size_of_type, data_at, type_at, record_end}

module _ (kind : ℕ) where
  pub max-most : max_records kind ≤ 11
  unfolding max_records
  max-most = go (ℕ_discrete kind leaf_kind)
    where
      go : (d : Dec (kind ≡ leaf_kind)) → cond d 8 11 ≤ 11
      go (yes e) = omega arith
      go (no n) = omega arith

  pub end-leaf : (img : List ℕ) (at : ℕ) → kind ≡ leaf_kind → record_end img kind at ≡ data_at img at + size_of_type (type_at img at)
  unfolding record_end
  end-leaf img at e = cond_yes (ℕ_discrete kind leaf_kind) _ _ e

  pub end-index : (img : List ℕ) (at : ℕ) → kind ≢ leaf_kind → record_end img kind at ≡ at + 42
  unfolding record_end
  end-index img at e = cond_no (ℕ_discrete kind leaf_kind) _ _ e

-- the data of every type have an even number of bytes, 102 at most; those of a type that there is, at least 46
pub size-even : (t : ℕ) → size_of_type t % 2 ≡ 0
unfolding size_of_type
size-even zero = refl
size-even (suc zero) = refl
size-even (suc (suc zero)) = refl
size-even (suc (suc (suc zero))) = refl
size-even (suc (suc (suc (suc zero)))) = refl
size-even (suc (suc (suc (suc (suc t))))) = refl

pub size-least : (t : ℕ) → 1 ≤ t → t ≤ 4 → 46 ≤ size_of_type t
unfolding size_of_type
size-least zero l u = absurd (omega arith)
size-least (suc zero) l u = omega arith
size-least (suc (suc zero)) l u = omega arith
size-least (suc (suc (suc zero))) l u = omega arith
size-least (suc (suc (suc (suc zero)))) l u = omega arith
size-least (suc (suc (suc (suc (suc t))))) l u = absurd (omega arith)
