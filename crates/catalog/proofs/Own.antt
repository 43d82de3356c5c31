-- Every leaf record of a sound catalog is seen under its own key.
-- Assumes nothing.
use mathlib.Core.Path.{refl, sym}
use mathlib.Core.List.{List}
use Prim.Native.Nat.{ℕ}
use Rattle.btree.specs.Lists.{◌∈◌}
use Rattle.btree.specs.Tree.{Rec}
use Rattle.btree.specs.Header.{view_of}
use Rattle.btree.proofs.Paths.{leaf-stands}
use Rattle.frame.specs.Form.{catalog}
use Rattle.catalog_keys.specs.Key.{Key, key_at}
use Rattle.catalog_keys.proofs.Reading.{key-short}
use Rattle.formats.specs.Format.{record_at}
use Rattle.reader.proofs.Salvaged.{Kept, kept}
use Rattle.catalog.specs.Asked.{of_key}
use Rattle.catalog.specs.Reader.{view, Sound, leaf_list}
use Rattle.catalog.proofs.Asked.{catalog-fair}

-- the key that stands where a leaf record starts
abbrev pub own_key : List ℕ → Rec → Key
own_key img x = key_at img (record_at catalog img x.node x.number)

pub kept-own : (img : List ℕ) → Sound img → (x : Rec) → x ∈ leaf_list img → Kept catalog img (of_key (own_key img x)) x
unfolding view_of
kept-own img s x m =
    kept catalog (catalog-fair catalog refl) img s (of_key (own_key img x)) (key-short img _) x m (sym (leaf-stands (view img) s.tree s.totals x m).is_key)
