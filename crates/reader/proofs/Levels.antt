-- How levels count, as W-201 words it: the nodes of a tree are laid out exactly when they keep it and their records fit their kind.
-- Assumes nothing.
use mathlib.Core.Path.{◌≡◌, sym, ◌∙◌}
use mathlib.Core.Logic.{◌↔◌, ◌⊎◌, inl, inr}
use mathlib.Core.List.{List}
use Prim.Native.Nat.{ℕ}
use native.Mathlib.Omega.{arith}
use native.Mathlib.Decide.{ℕ_discrete}
use Rattle.btree.specs.Decide.{cond}
use Rattle.btree.specs.Header.{view_of}
use Rattle.btree.specs.Tree.{OnLevel, LaidOut}
use Rattle.btree.proofs.Decisions.{cond_yes, cond_no}
use Rattle.btree.proofs.Levels.{Falls, falls-iff}
use Rattle.frame.specs.declared.form.Form.{Form}
use Rattle.frame.specs.Kinds.{leaf_kind, index_kind, kind_on, kind_of, level_of}
use Rattle.formats.specs.Format.{Records, view}

pub record Levels (form : Form) (img : List ℕ) : Type 0 where
  -- "the root's level is the depth, each child's is one less than its parent's"
  pub falls : Falls (view form img) (level_of form img)
  -- "and leaves are exactly the nodes of level 1"
  pub leaves : (d n : ℕ) → OnLevel (view form img) d n → (kind_of form img n ≡ leaf_kind) ↔ (level_of form img n ≡ 1)
  -- "Kinds: 00 index, .. FF leaf": a tree has no others, and each node's records are laid out for its own
  pub kinds : (d n : ℕ) → OnLevel (view form img) d n → (kind_of form img n ≡ leaf_kind) ⊎ (kind_of form img n ≡ index_kind)
  pub records : (d n : ℕ) → OnLevel (view form img) d n → Records form img (kind_of form img n) n

-- a kind is that of a level exactly when it is a leaf's at level 1 alone, and else an index node's
module _ (kind level : ℕ) where
  fits-level : kind ≡ kind_on level → ((kind ≡ leaf_kind) ↔ (level ≡ 1)) × ((kind ≡ leaf_kind) ⊎ (kind ≡ index_kind))
  unfolding kind_on
  fits-level e = go (ℕ_discrete level 1) e
    where
      go : (q : Dec (level ≡ 1)) → kind ≡ cond q leaf_kind index_kind → ((kind ≡ leaf_kind) ↔ (level ≡ 1)) × ((kind ≡ leaf_kind) ⊎ (kind ≡ index_kind))
      go (yes o) k = ((λ l. o, λ l. k), inl k)
      go (no o) k = ((λ l. omega arith, λ l. absurd (o l)), inr k)

  level-fits : (kind ≡ leaf_kind) ↔ (level ≡ 1) → (kind ≡ leaf_kind) ⊎ (kind ≡ index_kind) → kind ≡ kind_on level
  unfolding kind_on
  level-fits w (inl l) = l ∙ sym (cond_yes (ℕ_discrete level 1) leaf_kind index_kind (w.0 l))
  level-fits w (inr i) = i ∙ sym (cond_no (ℕ_discrete level 1) leaf_kind index_kind (λ o. let l = w.1 o in omega arith))

module _ (form : Form) (img : List ℕ) where
  laid-levels : LaidOut (view form img) → Levels form img
  unfolding view_of
  laid-levels l =
      record {
        falls = (falls-iff (view form img) (level_of form img)).1 (λ d n o. (l d n o).level);
        leaves = λ d n o. (fits-level (kind_of form img n) (level_of form img n) (l d n o).records.is_kind).0;
        kinds = λ d n o. (fits-level (kind_of form img n) (level_of form img n) (l d n o).records.is_kind).1;
        records = λ d n o. rw (l d n o).records.is_kind (l d n o).records;
      }

  levels-laid : Levels form img → LaidOut (view form img)
  unfolding view_of
  levels-laid h d n o =
      let k = level-fits (kind_of form img n) (level_of form img n) (h.leaves d n o) (h.kinds d n o) in
      record { level = (falls-iff (view form img) (level_of form img)).0 h.falls d n o; records = rw k at (h.records d n o) }

  pub levels-iff : LaidOut (view form img) ↔ Levels form img
  levels-iff = (laid-levels, levels-laid)
