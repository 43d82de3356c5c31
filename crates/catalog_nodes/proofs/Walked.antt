-- What the tests of a node's records say of each record.
-- Assumes nothing.
use mathlib.Core.Path.{◌≡◌, refl, ◌∙◌, ap}
use mathlib.Core.List.{List}
use Prim.Native.Nat.{ℕ, zero, suc, ◌+◌, ◌-◌, ◌*◌, ◌%◌, ◌≤◌, ◌<◌}
use native.Mathlib.Omega.{arith}
use native.Mathlib.Nat.{add-zero, add-suc, dvd-mul_left_of_dvd, dvd_of_mod-eq-zero, mod-eq-zero_of_dvd}
use native.Mathlib.Decide.{ℕ_discrete, dec_lt}
use lib.ListN.{get_or}
use Rattle.btree.specs.Header.{count_of}
use Rattle.frame.specs.declared.form.Form.{Form}
use Rattle.frame.specs.Form.{layout_of}
use Rattle.frame.specs.Kinds.{leaf_kind}
use Rattle.catalog_nodes.specs.Node.{size_of_type, after_key, data_at, type_at, record_end, RecordRight, offset_word, word_at, CatalogRecords}
use Rattle.catalog_nodes.proofs.Sizes.{end-leaf, end-index, size-even, size-least}

module _ (img : List ℕ) where
  -- "its data start on an even offset"
  pub data-even : (at : ℕ) → data_at img at % 2 ≡ 0
  unfolding after_key
  data-even at = omega arith

  -- a key's length byte and as many bytes as it says stand before the data
  pub data-after : (at : ℕ) → at + 1 + get_or img at 0 ≤ data_at img at
  unfolding after_key
  data-after at = omega arith

  end-even : (kind at : ℕ) → at % 2 ≡ 0 → record_end img kind at % 2 ≡ 0
  end-even kind at h = go (ℕ_discrete kind leaf_kind)
    where
      go : Dec (kind ≡ leaf_kind) → record_end img kind at % 2 ≡ 0
      go (yes e) = let d = data-even at in let s = size-even (type_at img at) in rw (end-leaf kind img at e) (omega arith)
      go (no n) = rw (end-index kind img at n) (omega arith)

  -- a record that is right has 42 bytes or more
  pub end_after : (kind at : ℕ) → RecordRight img kind at → at + 42 ≤ record_end img kind at
  end_after kind at r = go (ℕ_discrete kind leaf_kind)
    where
      go : Dec (kind ≡ leaf_kind) → at + 42 ≤ record_end img kind at
      go (yes e) =
          let d = data-after at in
          let t = r.is_type e in
          let s = size-least (type_at img at) t.0 t.1 in
          rw (end-leaf kind img at e) (omega arith)
      go (no n) = rw (end-index kind img at n) (omega arith)

  -- where record i starts of a node of this kind and of so many bytes, found by walking over those before it
  unfoldable pub walked : ℕ → ℕ → ℕ → ℕ → ℕ
  walked size kind n zero = n * size + 14
  walked size kind n (suc i) = record_end img kind (walked size kind n i)

module _ (form : Form) (img : List ℕ) (kind n : ℕ) (r : CatalogRecords form img kind n) where
  -- the offset words are the starts that a walk finds, that of the free space too
  pub starts : (i : ℕ) → i ≤ count_of (layout_of form) img n → word_at form img n i ≡ walked img form.size kind n i
  unfolding walked
  starts zero h = r.first
  starts (suc i) h = r.next i (omega arith) ∙ ap (record_end img kind) (starts i (omega arith))

  rising : (i m : ℕ) → i + m ≤ count_of (layout_of form) img n → word_at form img n i ≤ word_at form img n (i + m)
  rising i zero h = rw (add-zero i) (omega arith)
  rising i (suc m) h =
      let e = add-suc i m in
      let a = rising i m (omega arith) in
      let b = r.next (i + m) (omega arith) in
      let d = end_after img kind (word_at form img n (i + m)) (r.right (i + m) (omega arith)) in
      rw e (omega arith)

  -- "No record reaches into its node's offset words"
  pub ends-inside : (i : ℕ) → i < count_of (layout_of form) img n
      → record_end img kind (word_at form img n i) + 2 * suc (count_of (layout_of form) img n) ≤ n * form.size + form.size
  ends-inside i h =
      let e : suc i + (count_of (layout_of form) img n - suc i) ≡ count_of (layout_of form) img n = omega arith in
      let a = rw e at (rising (suc i) (count_of (layout_of form) img n - suc i) (omega arith)) in
      let b = r.next i h in
      let d = r.room in
      omega arith

  -- so 42 bytes of each stand before them
  pub least-inside : (i : ℕ) → i < count_of (layout_of form) img n → word_at form img n i + 42 + 2 * suc (count_of (layout_of form) img n) ≤ n * form.size + form.size
  least-inside i h =
      let a = end_after img kind (word_at form img n i) (r.right i h) in
      let b = ends-inside i h in
      omega arith

  -- a record of a higher number starts further on
  later : (i j : ℕ) → i < j → j < count_of (layout_of form) img n → word_at form img n i < word_at form img n j
  later i j h u =
      let e : suc i + (j - suc i) ≡ j = omega arith in
      let a = rw e at (rising (suc i) (j - suc i) (omega arith)) in
      let b = r.next i (omega arith) in
      let d = end_after img kind (word_at form img n i) (r.right i (omega arith)) in
      omega arith

  -- so records that start at one byte are one
  pub words-once : (i j : ℕ) → i < count_of (layout_of form) img n → j < count_of (layout_of form) img n → offset_word form img n i ≡ offset_word form img n j → i ≡ j
  words-once i j u v e = go (dec_lt i j) (dec_lt j i)
    where
      go : Dec (i < j) → Dec (j < i) → i ≡ j
      go (yes l) q = let a = later i j l v in absurd (omega arith)
      go (no p) (yes l) = let a = later j i l u in absurd (omega arith)
      go (no p) (no q) = omega arith

  -- "records and their data on even offsets", in nodes of an even number of bytes
  pub starts-even : form.size % 2 ≡ 0 → (i : ℕ) → i ≤ count_of (layout_of form) img n → word_at form img n i % 2 ≡ 0
  starts-even e zero h = let z = mod-eq-zero_of_dvd 2 (dvd-mul_left_of_dvd 2 (dvd_of_mod-eq-zero 2 e) n) in rw r.first (omega arith)
  starts-even e (suc i) h = rw (r.next i (omega arith)) (end-even img kind (word_at form img n i) (starts-even e i (omega arith)))

module _ (form : Form) (img : List ℕ) (n : ℕ) (r : CatalogRecords form img leaf_kind n) (i : ℕ) (h : i < count_of (layout_of form) img n) where
  pub data-inside : data_at img (word_at form img n i) + size_of_type (type_at img (word_at form img n i)) ≤ n * form.size + form.size
  data-inside =
      let e = end-leaf leaf_kind img (word_at form img n i) refl in
      let b = ends-inside form img leaf_kind n r i h in
      omega arith
