-- Every leaf record of a sound extents overflow file is seen: by the key that it has, and by any key in range that has its number.
-- Assumes nothing.
use mathlib.Core.Path.{◌≡◌, refl, sym, ◌∙◌}
use mathlib.Core.List.{List}
use Prim.Native.Nat.{ℕ}
use Rattle.btree.specs.Lists.{◌∈◌}
use Rattle.btree.specs.Tree.{Rec}
use Rattle.btree.specs.Header.{view_of}
use Rattle.btree.proofs.Paths.{leaf-stands}
use Rattle.frame.specs.declared.form.Form.{Form}
use Rattle.frame.specs.Form.{form_of, Fair}
use Rattle.frame.specs.Kinds.{leaf_kind}
use Rattle.extent_keys.specs.declared.key.Key.{Key}
use Rattle.extent_keys.specs.Key.{Lawful, key_at, rank}
use Rattle.image.proofs.Words.{Bytes}
use Rattle.extent_keys.proofs.Order.{InRange, key-range, rank-fork}
use Rattle.formats.specs.Format.{record_at, view}
use Rattle.formats.proofs.Starts.{start-extents}
use Rattle.reader.specs.Reader.{Sound, leaf_list}
use Rattle.reader.proofs.Salvaged.{Kept, kept, leaf-counts}
use Rattle.editions.specs.Asked.{of_key}

-- the key that a record has in the image
abbrev pub own_key : Form → List ℕ → Rec → Key
own_key form img x = key_at form img (record_at form img x.node x.number)

module _ (edition size : ℕ) (fair : Fair (form_of edition size)) (img : List ℕ) (s : Sound (form_of edition size) img) (x : Rec) (listed : x ∈ leaf_list (form_of edition size) img) where
  abbrev form : Form
  form = form_of edition size

  own-lawful : Lawful (own_key form img x).fork
  unfolding view_of
  own-lawful =
      let q = leaf-stands (view form img) s.tree s.totals x listed in
      let (a, b, w) = leaf-counts form fair img s x.node q.leaf in
      rw (start-extents form img x.node x.number refl leaf_kind w.records.is_kind) ((w.records.extents refl).keys x.number q.inside).fork

  own-rank : rank (own_key form img x) ≡ x.key
  unfolding view_of
  own-rank = (leaf-stands (view form img) s.tree s.totals x listed).is_key

  pub kept-own : Kept form img (of_key form (own_key form img x)) x
  kept-own = kept form fair img s (of_key form (own_key form img x)) own-lawful x listed (sym own-rank)

  pub kept-number : Bytes img → (k : Key) → InRange k → x.key ≡ rank k → Kept form img (of_key form k) x
  kept-number bytes k range same =
      let e = rank-fork (own_key form img x) k (key-range form img bytes (record_at form img x.node x.number)) range (own-rank ∙ same) in
      kept form fair img s (of_key form k) (rw e at own-lawful) x listed same
