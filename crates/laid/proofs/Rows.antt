-- The leaf records along the links of the tree laid down are the row again.
-- Assumes nothing.
use mathlib.Core.Path.{◌≡◌, refl, sym, ap, ◌∙◌}
use mathlib.Core.List.{List, [], ◌∷◌, ◌++◌, append-nil}
use Prim.Native.Nat.{ℕ, zero, suc, ◌+◌, ◌*◌, ◌<◌}
use native.Mathlib.Omega.{arith}
use lib.ListN.{length, take, drop, take-append-drop, drop_of_length-le}
use lib.Seq.{take_all, drop-drop}
use Rattle.btree.specs.Lists.{span, gather}
use Rattle.btree.specs.Tree.{View, Rec}
use Rattle.btree.specs.Header.{view_of}
use Rattle.btree.specs.Search.{record_of, records_of, leaf_list}
use Rattle.btree.proofs.Lists.{gather_append, gather-span}
use Rattle.btree.proofs.Leaves.{leaf_list-leaves}
use Rattle.frame.specs.Form.{hfs}
use Rattle.formats.specs.Format.{view}
use Rattle.shape.specs.Shape.{first_in, record_under, nodes_at, held, start}
use Rattle.shape.proofs.Shape.{held-most, held-inside, start-mono}
use Rattle.shape.proofs.Shaped.{Deep, range, Shaped}
use Rattle.shape.proofs.Levels.{span-move}
use Rattle.shape.proofs.Tree.{tree-sound, tree-totals, leaf-range, leaf-entries}
use Rattle.leaf_rows.specs.Row.{bytes_of}
use Rattle.laid.specs.Laid.{size_at, entry}
use Rattle.laid.proofs.Bytes.{same-take}
use Rattle.laid.proofs.Nodes.{fits, entry_length}
use Rattle.laid.proofs.Fields.{i-record, i-entry}
use Rattle.laid.proofs.Header.{img-length}
use Rattle.laid.proofs.Image.{Given, img, keys, shaped}

gather-gather : {A B C : Type 0} (f : A → List B) (g : B → List C) (xs : List A) → gather g (gather f xs) ≡ gather (λ x. gather g (f x)) xs
gather-gather f g [] = refl
gather-gather f g (x ∷ xs) = gather_append g (f x) (gather f xs) ∙ rw (gather-gather f g xs)

-- whatever is read of a leaf record, where it is what g gives of its row
module _ (v : View) (K : ℕ → ℕ) (m r D : ℕ) (deep : Deep r D) (s : Shaped v K m r D) (rise : (p q : ℕ) → p < q → q < r → K p < K q)
    {A : Type 0} (read : Rec → List A) (g : ℕ → List A)
    (each : (k i : ℕ) → 0 < D → k < nodes_at r 0 → i < held r 0 k → read (record_of v (start m r 0 + k) i) ≡ g (first_in 0 k + i)) where
  list-entries : gather read (leaf_list v) ≡ span 0 r g
  list-entries =
      ap (gather read) (leaf_list-leaves v (tree-sound v K m r D deep s rise) (tree-totals v K m r D deep s rise) ∙ ap (gather (records_of v)) (leaf-range v K m r D deep s rise))
      ∙ gather-gather (records_of v) read (range (start m r 0) (nodes_at r 0))
      ∙ leaf-entries v K m r D deep s rise (λ n. gather read (records_of v n)) g (λ k u l.
      gather-span read 0 (v.count (start m r 0 + k)) _
      ∙ rw (s.count 0 k l u) (span-move (first_in 0 k) (held r 0 k) _ g (λ i b. append-nil _ ∙ each k i l u b)))

-- a row, twenty bytes at a time
chunks : (row : List ℕ) (i n : ℕ) → (i + n) * 20 ≡ length row → span i n (λ q. take 20 (drop (q * 20) row)) ≡ drop (i * 20) row
chunks row i zero e = sym (drop_of_length-le row {i = i * 20} (omega arith))
chunks row i (suc n) e =
    let z : suc i * 20 ≡ i * 20 + 20 = omega arith in
    rw (chunks row (suc i) n (omega arith), z)
    (ap (λ x. take 20 (drop (i * 20) row) ++ x) (sym (drop-drop 20 (i * 20) row)) ∙ take-append-drop 20 (drop (i * 20) row))

module _ (row : List ℕ) (m r D nodes : ℕ) (g : Given row m r D nodes) where
  leaf-bytes : (k i : ℕ) → 0 < D → k < nodes_at r 0 → i < held r 0 k
      → bytes_of (img row m r D nodes g) (record_of (view hfs (img row m r D nodes g)) (start m r 0 + k) i) ≡ take 20 (drop ((first_in 0 k + i) * 20) row)
  unfolding view_of size_at entry record_under
  leaf-bytes k i l u b =
      let q = first_in 0 k + i in
      let e = i-record row m r g.long D nodes g.room 0 k l u i b in
      let a = start-mono m r 0 D l in
      let len = entry_length row m r g.long 0 q (held-inside r 0 k i b) in
      let f = fits 0 (held r 0 k) (held-most r 0 k) in
      rw e
      (same-take (i-entry row m r g.long D nodes g.room 0 k l u i b) (rw (img-length row m r g.long D nodes g.room) (omega (arith, g.room))) (omega arith)
      ∙ take_all 20 (entry row m r 0 q) (omega arith))

  pub row-again : r * 20 ≡ length row → gather (bytes_of (img row m r D nodes g)) (leaf_list (view hfs (img row m r D nodes g))) ≡ row
  row-again e =
      list-entries (view hfs (img row m r D nodes g)) (keys row m r D nodes g) m r D g.deep (shaped row m r D nodes g) g.rise
      (bytes_of (img row m r D nodes g)) (λ q. take 20 (drop (q * 20) row)) leaf-bytes
      ∙ chunks row 0 r (omega arith)
