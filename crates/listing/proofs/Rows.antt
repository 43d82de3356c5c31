-- The rows from a node on, as code walks along the links, and how many there are.
-- Assumes nothing.
use mathlib.Core.Path.{◌≡◌, refl, sym, ap, ◌∙◌}
use mathlib.Core.Logic.{◌⊎◌}
use mathlib.Core.List.{List, [], ◌∷◌, ◌++◌}
use Prim.Native.Nat.{ℕ, zero, suc, ◌+◌, ◌-◌, ◌≤◌, ◌<◌}
use native.Mathlib.Omega.{arith}
use lib.ListN.{length, length-append}
use Rattle.std.specs.Prelude.{Option, Some, None, option_map, slice_get}
use Rattle.std.proofs.lemmas.Grind.{common_steps}
use Rattle.std.proofs.lemmas.Option.{gets}
use Rattle.btree.proofs.Lists.{ones-length}
use Rattle.btree.specs.Lists.{span, gather, along}
use Rattle.btree.specs.Tree.{View, Rec, record_count, leaves_at, SoundTree, LeafTotals}
use Rattle.btree.specs.Search.{record_of, records_of, leaf_list}
use Rattle.btree.proofs.Leaves.{leaf_list-leaves}
use Rattle.btree.specs.Header.{leaf_records_of, view_of}
use Rattle.extents.specs.Reader.{Sound, view}
use Rattle.btree.proofs.Along.{along-on, along-end}
use Rattle.listing.specs.declared.LeafRecord.{LeafRecord}
use Rattle.listing.specs.Rows.{row_of, leaf_row, EndsAt}

module _ {A : Type 0} where
  get-inside : (f : ℕ → A) (rest : List A) (i n k : ℕ) → k < n → slice_get (span i n (λ j. f j ∷ []) ++ rest) k ≡ Some (f (i + k))
  get-inside f rest i zero k h = absurd (omega arith)
  get-inside f rest i (suc n) zero h = let e : i ≡ i + 0 = omega arith in ap (λ j. Some (f j)) e
  get-inside f rest i (suc n) (suc k) h =
      let e : suc i + k ≡ i + suc k = omega arith in get-inside f rest (suc i) n k (omega arith) ∙ ap (λ j. Some (f j)) e

  get-past : (f : ℕ → A) (rest : List A) (i n k : ℕ) → n ≤ k → slice_get (span i n (λ j. f j ∷ []) ++ rest) k ≡ slice_get rest (k - n)
  get-past f rest i zero k h = let e : k ≡ k - 0 = omega arith in ap (λ j. slice_get rest j) e
  get-past f rest i (suc n) zero h = absurd (omega arith)
  get-past f rest i (suc n) (suc k) h =
      let e : k - n ≡ suc k - suc n = omega arith in get-past f rest (suc i) n k (omega arith) ∙ ap (λ j. slice_get rest j) e

-- a list has no element from its length on
row-end : (l : List Rec) (k : ℕ) → EndsAt (length l) k (option_map row_of (slice_get l k))
row-end l k = grind (arith, common_steps, gets)

module _ (v : View) where
  open v use {count, forward}

  -- row k of those from the node n on, along this many links
  abbrev pub row_from : ℕ → ℕ → ℕ → Option LeafRecord
  row_from links n k = option_map row_of (slice_get (gather (records_of v) (along forward links n)) k)

  -- the records along the links after the node n
  abbrev later : ℕ → ℕ → List Rec
  later links n = gather (records_of v) (along forward (links - 1) (forward n))

  pub row_inside : (links n k : ℕ) → 0 < links → (n ≡ 0 → ⊥) → k < count n → row_from links n k ≡ Some (record { node = n; number = k })
  row_inside links n k l z h =
      let e : 0 + k ≡ k = omega arith in
      rw (along-on forward links n l z) (ap (option_map row_of) (get-inside (record_of v n) (later links n) 0 (count n) k h) ∙ ap (λ j. Some (record { node = n; number = j })) e)

  pub row_on : (links n k : ℕ) → 0 < links → (n ≡ 0 → ⊥) → count n ≤ k → row_from links n k ≡ row_from (links - 1) (forward n) (k - count n)
  row_on links n k l z h =
      rw (along-on forward links n l z) (ap (option_map row_of) (get-past (record_of v n) (later links n) 0 (count n) k h))

  pub row-none : (links n k : ℕ) → (links ≡ 0) ⊎ (n ≡ 0) → row_from links n k ≡ None
  row-none links n k e = rw (along-end forward links n e)

  gathered : (ns : List ℕ) → length (gather (records_of v) ns) ≡ record_count v ns
  gathered [] = refl
  gathered (n ∷ ns) =
      let a = length-append (records_of v n) (gather (records_of v) ns) in
      let b = ones-length 0 (count n) (record_of v n) in
      let c = gathered ns in omega arith

  module _ (s : SoundTree v) (t : LeafTotals v) where
    -- the leaf list has as many records as the header says
    pub rows-counted : length (leaf_list v) ≡ v.leaf_records
    rows-counted = ap length (leaf_list-leaves v s t) ∙ gathered (leaves_at v v.depth) ∙ sym t.records

    pub rows_end : (k : ℕ) → EndsAt v.leaf_records k (option_map row_of (slice_get (leaf_list v) k))
    rows_end k = rw (← rows-counted) (row-end (leaf_list v) k)

-- what a row says that is row k
pub row_told : (img : List ℕ) (k : ℕ) (r : Option LeafRecord) → r ≡ leaf_row img k → (r ≡ leaf_row img k) × (Sound img → EndsAt (leaf_records_of img) k r)
unfolding view_of
row_told img k r e = (e, λ s. rw e (rows_end (view img) s.tree s.totals k))
