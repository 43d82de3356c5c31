-- What a view says of the tree laid down: each number by the arithmetic of its shape.
-- Assumes nothing.
use mathlib.Core.Path.{◌≡◌}
use mathlib.Core.List.{List, [], ◌∷◌}
use Prim.Native.Nat.{ℕ, zero, suc, ◌+◌, ◌≤◌, ◌<◌}
use Rattle.btree.specs.Lists.{span}
use Rattle.btree.specs.Tree.{View, map_chain}
use Rattle.shape.specs.Shape.{first_in, record_under, nodes_at, held, start}

-- nodes of the tree, of D levels
unfoldable pub tree_size : ℕ → ℕ → ℕ
tree_size r zero = 0
tree_size r (suc h) = tree_size r h + nodes_at r h

-- D levels are those that r records take: the top one has one node, and no other has
pub record Deep (r D : ℕ) : Type 0 where
  pub none : D ≡ 0 → r ≡ 0
  pub some : r ≡ 0 → D ≡ 0
  pub top : (h : ℕ) → D ≡ suc h → nodes_at r h ≡ 1
  pub more : (h : ℕ) → suc h < D → 2 ≤ nodes_at r h

-- n numbers from a on
abbrev pub range : ℕ → ℕ → List ℕ
range a n = span a n (λ k. k ∷ [])

-- D levels over r records with the keys K, after m map nodes
pub record Shaped (v : View) (K : ℕ → ℕ) (m r D : ℕ) : Type 0 where
  pub depth : v.depth ≡ D
  pub root : (h : ℕ) → D ≡ suc h → v.root ≡ start m r h
  pub leaf_records : v.leaf_records ≡ r
  pub no_first : D ≡ 0 → v.first_leaf ≡ 0
  pub no_last : D ≡ 0 → v.last_leaf ≡ 0
  pub first_leaf : 0 < D → v.first_leaf ≡ start m r 0
  pub last_leaf : (k : ℕ) → 0 < D → nodes_at r 0 ≡ suc k → v.last_leaf ≡ start m r 0 + k
  pub room : start m r D ≤ v.total
  pub chain : map_chain v ≡ range 1 m
  pub count : (h k : ℕ) → h < D → k < nodes_at r h → v.count (start m r h + k) ≡ held r h k
  pub key : (h k i : ℕ) → h < D → k < nodes_at r h → i < held r h k → v.key (start m r h + k) i ≡ K (record_under h (first_in h k + i))
  pub child : (h k i : ℕ) → suc h < D → k < nodes_at r (suc h) → i < held r (suc h) k → v.child (start m r (suc h) + k) i ≡ start m r h + (first_in (suc h) k + i)
  pub forward : (h k : ℕ) → h < D → suc k < nodes_at r h → v.forward (start m r h + k) ≡ start m r h + suc k
  pub forward_end : (h k : ℕ) → h < D → suc k ≡ nodes_at r h → v.forward (start m r h + k) ≡ 0
  pub back_start : (h : ℕ) → h < D → v.back (start m r h + 0) ≡ 0
  pub back : (h k : ℕ) → h < D → suc k < nodes_at r h → v.back (start m r h + suc k) ≡ start m r h + k
