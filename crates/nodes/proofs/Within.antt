-- The keys of a node that lies in the image do.
-- Assumes nothing.
use mathlib.Core.Path.{◌≡◌}
use mathlib.Core.List.{List}
use Prim.Native.Nat.{ℕ, ◌+◌, ◌*◌, ◌≤◌, ◌<◌}
use native.Mathlib.Decide.{ℕ_discrete}
use native.Mathlib.Omega.{arith}
use lib.ListN.{length}
use Rattle.btree.specs.Header.{count_of}
use Rattle.frame.specs.declared.form.Form.{Form}
use Rattle.frame.specs.Form.{key_size, layout_of}
use Rattle.frame.specs.Inside.{NodeIn}
use Rattle.frame.proofs.Forms.{key-some, key-size-catalog}
use Rattle.extent_nodes.proofs.Sizes.{size-some, start-inside}
use Rattle.catalog_nodes.proofs.Walked.{least-inside}
use Rattle.formats.specs.Format.{record_at, Records}
use Rattle.formats.proofs.Starts.{start-extents, start-catalog}
use Rattle.nodes.specs.Inside.{RecordsIn}

module _ (form : Form) (img : List ℕ) (n : ℕ) where
  -- the records of a node that passed its tests
  pub records-within : (kind : ℕ) → NodeIn form img n → Records form img kind n → RecordsIn form img n
  records-within kind inside r = record { node = inside; within = λ i h. go i h (ℕ_discrete form.tree 0) }
    where
      go : (i : ℕ) → i < count_of (layout_of form) img n → Dec (form.tree ≡ 0) → record_at form img n i + (key_size form + 4) ≤ n * form.size + form.size
      go i h (yes t) =
          let s = start-extents form img n i t kind r.is_kind in
          let o = start-inside form kind _ i (r.extents t).few h in
          let z = size-some form kind in
          omega arith
      go i h (no t) =
          let s = start-catalog form img n i t in
          let o = least-inside form img kind n (r.catalog (omega arith)) i h in
          let k = key-size-catalog form t in
          omega arith

  pub key-inside : RecordsIn form img n → (i : ℕ) → i < count_of (layout_of form) img n → record_at form img n i + 12 ≤ length img
  key-inside r i h = let w = r.within i h in let k = key-some form in let l = r.node.inside in omega arith
