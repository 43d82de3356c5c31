-- The data of a leaf record lies in the image.
-- Assumes nothing.
use mathlib.Core.Path.{◌≡◌, refl}
use mathlib.Core.List.Memᴰ
use mathlib.Core.List.{List}
use Prim.Native.Nat.{ℕ, zero, suc, ◌+◌, ◌≤◌, ◌<◌}
use native.Mathlib.Omega.{arith}
use lib.ListN.{length}
use Rattle.btree.specs.Places.{image_offset}
use Rattle.btree.specs.Lists.{◌∈◌}
use Rattle.btree.specs.Tree.{Rec, leaves_at, OnLevel}
use Rattle.btree.specs.Header.{depth_of, total_of, count_of, view_of}
use Rattle.btree.specs.Search.{place_of}
use Rattle.btree.proofs.MapBits.{node-inside}
use Rattle.btree.proofs.Paths.{leaf-stands}
use Rattle.frame.specs.declared.form.Form.{Form}
use Rattle.frame.specs.Form.{layout_of, Fair}
use Rattle.frame.proofs.Forms.{fits}
use Rattle.frame.specs.Kinds.{leaf_kind}
use Rattle.formats.specs.Format.{record_at, data_at, data_size_at, Records, view}
use Rattle.reader.specs.Reader.{Sound, leaf_list}
use Rattle.formats.proofs.Starts.{record-inside}
use Rattle.reader.proofs.Levels.{levels-iff}

-- a leaf is on the lowest level
pub leaf-level : (form : Form) (img : List ℕ) (n : ℕ) → n ∈ leaves_at (view form img) (view form img).depth → (h : ℕ) × (h + 1 ≡ depth_of img) × OnLevel (view form img) h n
unfolding view_of
leaf-level form img n = go (depth_of img) refl
  where
    go : (d : ℕ) → depth_of img ≡ d → n ∈ leaves_at (view form img) d → (h : ℕ) × (h + 1 ≡ depth_of img) × OnLevel (view form img) h n
    go zero e m = absurd (Memᴰ.not-nil m)
    go (suc h) e m = (h, omega arith, record { deep = omega arith; among = m })

module _ (form : Form) (fair : Fair form) (img : List ℕ) (s : Sound form img) where
  -- a leaf of a sound image is laid out as one, and the image has it
  pub leaf-records : (n : ℕ) → n ∈ leaves_at (view form img) (view form img).depth → Records form img leaf_kind n × (n < total_of img)
  unfolding view_of
  leaf-records n m =
      let (h, e, o) = leaf-level form img n m in
      let l = (s.nodes h n o).level in
      let v = (levels-iff form img).0 s.nodes in
      (rw ((v.leaves h n o).1 (omega arith)) at (v.records h n o), s.tree.in_range h n o)

  pub leaf-inside : (n i : ℕ) → n ∈ leaves_at (view form img) (view form img).depth → i < count_of (layout_of form) img n → data_at form img (record_at form img n i) + data_size_at form img (record_at form img n i) ≤ length img
  leaf-inside n i m u =
      let (r, l) = leaf-records n m in
      record-inside form img n i r (node-inside (layout_of form) (fits form fair) img s.lengths s.header.total_nodes n l) u

  -- so of a leaf record, by its place
  pub listed-inside : (x : Rec) → x ∈ leaf_list form img → data_at form img (image_offset (layout_of form) (place_of x)) + data_size_at form img (image_offset (layout_of form) (place_of x)) ≤ length img
  unfolding view_of
  listed-inside x m = let q = leaf-stands (view form img) s.tree s.totals x m in rw q.is_offset at (leaf-inside x.node x.number q.leaf q.inside)
