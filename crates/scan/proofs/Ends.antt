-- A key below the first of keys that ascend, or above the last, is none of them.
-- Assumes nothing.
use mathlib.Core.Path.{◌≡◌, refl, sym, ◌∙◌}
use mathlib.Core.Logic.Dec
use mathlib.Core.Logic.{◌≢◌}
use mathlib.Core.Option.{none}
use mathlib.Core.List.{List}
use Prim.Native.Nat.{ℕ, ◌-◌, ◌<◌}
use native.Mathlib.Decide.{ℕ_discrete}
use native.Mathlib.Omega.{arith}
use Rattle.btree.specs.Decide.{cond}
use Rattle.btree.specs.Header.{view_of, count_of}
use Rattle.btree.specs.Search.{record_with}
use Rattle.btree.proofs.Decisions.{none-not}
use Rattle.frame.specs.declared.form.Form.{Form}
use Rattle.frame.specs.Form.{layout_of}
use Rattle.extent_keys.specs.declared.key.SortKey.{SortKey}
use Rattle.extent_keys.specs.Key.{key_at, rank, rank_of}
use Rattle.formats.specs.Asked.{asked_rank}
use Rattle.formats.specs.Format.{record_at, view}
use Rattle.formats.proofs.Ranks.{rank-extents, asked-extents}
use Rattle.order.specs.Whole.{WholeLeaf, dec_whole_leaf}
use Rattle.order.proofs.Rising.{from_first, to_last}
use Rattle.scan.specs.Seen.{seen_in}

module _ (form : Form) (img : List ℕ) (k n : ℕ) where
  -- a leaf none of whose keys is k
  seen_none : (WholeLeaf form img n → (i : ℕ) → i < (view form img).count n → (view form img).key n i ≢ k) → seen_in form img k n ≡ none
  unfolding seen_in view_of
  seen_none f = go (dec_whole_leaf form img n)
    where
      go : (q : Dec (WholeLeaf form img n)) → cond q (record_with (view form img) n k 0 (count_of (layout_of form) img n)) none ≡ none
      go (yes w) = none-not (λ j. Dec.not (ℕ_discrete ((view form img).key n j) k)) 0 _ (λ j l u. f w j (omega arith))
      go (no w) = refl

  seen_below : k < (view form img).key n 0 → seen_in form img k n ≡ none
  seen_below h = seen_none (λ w i u e. let q = from_first (view form img) n w.ascend i u in omega arith)

  seen-above : (view form img).key n ((view form img).count n - 1) < k → seen_in form img k n ≡ none
  seen-above h = seen_none (λ w i u e. let q = to_last (view form img) n w.ascend i u in omega arith)

-- the same by keys as the code reads them
module _ (form : Form) (img : List ℕ) (n : ℕ) (t : form.tree ≡ 0) (key read : SortKey) (at i : ℕ) (a : at ≡ record_at form img n i) (e : rank_of read ≡ rank (key_at form img at)) where
  is-rank : rank_of read ≡ (view form img).key n i
  unfolding view_of
  is-rank = rw (← a) (e ∙ sym (rank-extents form t img at))

  pub below-first : i ≡ 0 → rank_of key < rank_of read → (name : List ℕ) → seen_in form img (asked_rank form key name) n ≡ none
  below-first z h name =
      let q = asked-extents form t key name in
      let r = rw z at is-rank in
      seen_below form img (asked_rank form key name) n (omega arith)

  pub above-last : i ≡ (view form img).count n - 1 → rank_of read < rank_of key → (name : List ℕ) → seen_in form img (asked_rank form key name) n ≡ none
  above-last z h name =
      let q = asked-extents form t key name in
      let r = rw z at is-rank in
      seen-above form img (asked_rank form key name) n (omega arith)
