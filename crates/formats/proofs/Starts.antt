-- Where the records of a node start, in either tree, and that the data of a leaf's lies in the image.
-- Assumes nothing.
use mathlib.Core.Path.{◌≡◌, refl, sym, ap, ◌∙◌}
use mathlib.Core.List.{List}
use Prim.Native.Nat.{ℕ, ◌+◌, ◌*◌, ◌≤◌, ◌<◌}
use native.Mathlib.Decide.{ℕ_discrete}
use native.Mathlib.Omega.{arith}
use lib.ListN.{length}
use Rattle.image.proofs.Words.{Bytes}
use Rattle.image.specs.Bytes.{be16_at}
use Rattle.btree.specs.Header.{count_of}
use Rattle.frame.specs.declared.form.Form.{Form}
use Rattle.frame.specs.Form.{key_size, layout_of}
use Rattle.frame.specs.Kinds.{leaf_kind, kind_of}
use Rattle.frame.proofs.Forms.{if-zero, if-not}
use Rattle.extent_nodes.specs.Records.{data_size, record_size, start_in, start_at}
use Rattle.extent_nodes.proofs.Sizes.{size-leaf, start-inside, start-next, start-once}
use Rattle.catalog_nodes.specs.Node.{word_at, offset_word, type_at, size_of_type}
use Rattle.catalog_nodes.specs.Node as node
use Rattle.catalog_nodes.proofs.Walked.{data-inside, words-once}
use Rattle.formats.specs.Format.{record_offset, record_at, data_at, data_size_at, Records}

module _ (form : Form) (img : List ℕ) where
  pub offset-extents : (n i : ℕ) → form.tree ≡ 0 → record_offset form img n i ≡ start_in form (kind_of form img n) i
  unfolding record_offset
  offset-extents n i t = if-zero form.tree _ _ t

  pub offset-catalog : (n i : ℕ) → (form.tree ≡ 0 → ⊥) → record_offset form img n i ≡ offset_word form img n i
  unfolding record_offset
  offset-catalog n i t = if-not form.tree _ _ t

  pub start-extents : (n i : ℕ) → form.tree ≡ 0 → (kind : ℕ) → kind_of form img n ≡ kind → record_at form img n i ≡ start_at form kind n i
  start-extents n i t kind e = ap (λ (x : ℕ). n * form.size + x) (offset-extents n i t ∙ ap (λ (k : ℕ). start_in form k i) e)

  pub start-catalog : (n i : ℕ) → (form.tree ≡ 0 → ⊥) → record_at form img n i ≡ word_at form img n i
  start-catalog n i t = ap (λ (x : ℕ). n * form.size + x) (offset-catalog n i t)

  -- from one record of an extents node to the next
  pub record-next : form.tree ≡ 0 → (n i : ℕ) → record_at form img n (i + 1) ≡ record_at form img n i + record_size form (kind_of form img n)
  record-next t n i =
      let a = offset-extents n i t in
      let b = offset-extents n (i + 1) t in
      let s = start-next form (kind_of form img n) n i in
      omega arith

  -- record i of a leaf that is laid out right, in an image that has the node
  pub record-inside : (n i : ℕ) → Records form img leaf_kind n → n * form.size + form.size ≤ length img → i < count_of (layout_of form) img n
      → data_at form img (record_at form img n i) + data_size_at form img (record_at form img n i) ≤ length img
  record-inside n i r h u = go (ℕ_discrete form.tree 0)
    where
      go : Dec (form.tree ≡ 0) → data_at form img (record_at form img n i) + data_size_at form img (record_at form img n i) ≤ length img
      go (yes t) =
          let a = size-leaf form leaf_kind refl in
          let s = start-extents n i t leaf_kind r.is_kind in
          let o = start-inside form leaf_kind _ i (r.extents t).few u in
          let d : data_at form img (record_at form img n i) ≡ record_at form img n i + key_size form = if-zero form.tree _ _ t in
          let z : data_size_at form img (record_at form img n i) ≡ data_size form = if-zero form.tree _ _ t in
          omega arith
      go (no t) =
          let s = start-catalog n i t in
          let o = data-inside form img n (r.catalog (omega arith)) i u in
          let d : data_at form img (record_at form img n i) ≡ node.data_at img (record_at form img n i) = if-not form.tree _ _ t in
          let z : data_size_at form img (record_at form img n i) ≡ size_of_type (type_at img (record_at form img n i)) = if-not form.tree _ _ t in
          let o2 = rw (← s) at o in
          omega arith

  -- two records of a node that start at one byte are one
  pub offset-once : (kind n : ℕ) → Records form img kind n → (i j : ℕ) → i < count_of (layout_of form) img n → j < count_of (layout_of form) img n
      → record_offset form img n i ≡ record_offset form img n j → i ≡ j
  offset-once kind n r i j u v e = go (ℕ_discrete form.tree 0)
    where
      go : Dec (form.tree ≡ 0) → i ≡ j
      go (yes t) = start-once form (kind_of form img n) i j (sym (offset-extents n i t) ∙ e ∙ offset-extents n j t)
      go (no t) = words-once form img kind n (r.catalog (omega arith)) i j u v (sym (offset-catalog n i t) ∙ e ∙ offset-catalog n j t)

  -- a count is a word
  pub count_small : Bytes img → (n : ℕ) → count_of (layout_of form) img n < 65536
  unfolding be16_at
  count_small b n = let h = b (n * form.size + 10) in let l = b (n * form.size + 10 + 1) in omega arith
