-- Pointer keys of a sound image, as W-205 words them, and what a search by them comes to where no leaf record has the key.
-- Assumes nothing.
use mathlib.Core.Path.{◌≡◌}
use mathlib.Core.Logic.{◌↔◌}
use mathlib.Core.List.{List}
use Prim.Native.Nat.{ℕ, suc, ◌<◌}
use lib.ListN.{length}
use Rattle.btree.specs.declared.Answer.TheVariants.{Found, Absent}
use Rattle.btree.specs.declared.Place.{Place}
use Rattle.btree.specs.Lists.{◌∈◌}
use Rattle.btree.specs.Tree.{Rec, OnLevel}
use Rattle.btree.specs.Header.{depth_of, view_of}
use Rattle.btree.specs.Search.{place_of, Floor, AtPathEnd, floor_of}
use Rattle.btree.proofs.Leaves.{on-child}
use Rattle.btree.proofs.Floor as floor
use Rattle.frame.specs.declared.form.Form.{Form}
use Rattle.formats.specs.Format.{view}
use Rattle.reader.specs.Query.{Query}
use Rattle.reader.specs.Reader.{Sound, leaf_list, search_path}

module _ (form : Form) (img : List ℕ) (s : Sound form img) where
  -- every node of the tree has a record
  node-filled : (d n : ℕ) → OnLevel (view form img) d n → 0 < (view form img).count n
  unfolding view_of
  node-filled d n o = (s.nodes d n o).records.some

  -- "a pointer key equals the first key of its child": so of every record of every index node
  pub pointer-first : (d n i : ℕ) → OnLevel (view form img) d n → suc d < (view form img).depth → i < (view form img).count n → (view form img).key n i ≡ (view form img).key ((view form img).child n i) 0
  pointer-first d n i o l u = s.tree.pointer_keys d n i o u l (node-filled (suc d) ((view form img).child n i) (on-child (view form img) d n i o u l))

  module _ (q : Query) where
    -- of all leaf records the one with the highest key not above the asked one is the one with the highest such key in the leaf where its search path ends
    pub floor-iff : (x : Rec) → Floor (view form img) q.rank x ↔ AtPathEnd (view form img) q.rank x
    floor-iff = floor.floor-iff (view form img) s.tree q.rank node-filled s.totals

    -- and the path is cut short only where every leaf record's key is above it
    pub cut_short : length (search_path form img q) < depth_of img → (x : Rec) → x ∈ leaf_list form img → q.rank < x.key
    unfolding view_of
    cut_short = floor.cut_short (view form img) s.tree q.rank node-filled s.totals

  module _ (k : ℕ) where
    -- the descent for the record with the highest key not above k finds it, by its start
    pub floor-found : (p : Place) → (floor_of (view form img) k ≡ Found p) ↔ ((x : Rec) × Floor (view form img) k x × (place_of x ≡ p))
    floor-found = floor.floor-found (view form img) s.tree k node-filled s.totals

    -- and says absent exactly where every leaf record's key is above k
    pub floor-absent : ((n : ℕ) × (floor_of (view form img) k ≡ Absent n)) ↔ ((x : Rec) → x ∈ leaf_list form img → k < x.key)
    floor-absent = floor.floor-absent (view form img) s.tree k node-filled s.totals

    -- there is at most one such record
    pub floor-once : (x y : Rec) → Floor (view form img) k x → Floor (view form img) k y → x ≡ y
    floor-once = floor.floor-once (view form img) s.tree k node-filled s.totals
