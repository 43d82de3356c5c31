-- The nodes reached in the tree laid down are those with the lowest numbers.
-- Assumes nothing.
use mathlib.Core.Path.{◌≡◌, refl, ap, ◌∙◌}
use mathlib.Core.Logic.{⊎_elim}
use mathlib.Core.List.Memᴰ
use Prim.Native.Nat.{ℕ, zero, suc, ◌+◌, ◌-◌, ◌≤◌, ◌<◌}
use native.Mathlib.Omega.{arith}
use native.Mathlib.Decide.{ℕ_discrete, dec_lt, dec_le}
use lib.ListN.{length, length-append}
use Rattle.btree.specs.Lists.{◌∈◌, span}
use Rattle.btree.specs.Tree.{View, below, map_chain, tree_nodes, reached}
use Rattle.btree.proofs.Lists.{span-mem, mem-span}
use Rattle.shape.specs.Shape.{nodes_at, start}
use Rattle.shape.proofs.Shaped.{tree_size, Deep, Shaped}
use Rattle.shape.proofs.Shape.{start-low, start-mono, start-step, start_first, start-size}
use Rattle.shape.proofs.Levels.{range-in, in-range, range_length, level}

-- the height of a node below the tree's end
record At (m r E n : ℕ) : Type 0 where
  height : ℕ
  inside : height < E
  from : start m r height ≤ n
  to : n < start m r height + nodes_at r height

find : (m r n E : ℕ) → 1 + m ≤ n → n < start m r E → At m r E n
find m r n zero l u = let a = start_first m r in absurd (omega arith)
find m r n (suc E) l u = go (dec_lt n (start m r E)) (find m r n E l)
  where
    go : Dec (n < start m r E) → (n < start m r E → At m r E n) → At m r (suc E) n
    go (yes a) f = let p = f a in record { height = p.height; inside = omega (arith, p.inside); from = p.from; to = p.to }
    go (no a) f = let b = start-step m r E in record { height = E; inside = omega arith; from = omega arith; to = omega arith }

module _ (v : View) (K : ℕ → ℕ) (m r D : ℕ) (deep : Deep r D) (s : Shaped v K m r D) where
  open v use {depth, root}

  levels-length : (i n : ℕ) → i + n ≡ D → length (span i n (λ d. below v d root)) ≡ tree_size r n
  unfolding tree_size
  levels-length i zero e = refl
  levels-length i (suc n) e =
      length-append (below v i root) (span (suc i) n (λ d. below v d root))
      ∙ rw (level v K m r D deep s i n e, range_length (start m r n) (nodes_at r n), levels-length (suc i) n (omega arith)) (omega arith)

  pub tree-length : length (tree_nodes v) ≡ tree_size r D
  tree-length = ap (λ x. length (span 0 x (λ d. below v d root))) s.depth ∙ levels-length 0 D (omega arith)

  pub reached-length : length (reached v) ≡ start m r D
  reached-length =
      let a = start-size m r D in
      let b = ap length s.chain ∙ range_length 1 m in
      ap suc (length-append (map_chain v) (tree_nodes v)) ∙ omega (arith, tree-length)

  pub reached-low : (n : ℕ) → n ∈ reached v → n < start m r D
  reached-low n w =
      let a = start-low m r D in
      ⊎_elim (λ e. omega arith)
      (λ x. ⊎_elim
      (λ y. let (b, c) = range-in 1 m (rw s.chain at y) in omega arith)
      (λ y.
      let (d, b, c, z) = span-mem 0 depth (λ d. below v d root) y in
      let l : d < D = omega (arith, s.depth) in
      let (e, f) = range-in (start m r (D - suc d)) (nodes_at r (D - suc d)) (rw (level v K m r D deep s d (D - suc d) (omega arith)) at z) in
      let g = start-mono m r (D - suc d) D (omega arith) in
      omega arith)
      (Memᴰ.append_cases (map_chain v) x))
      (Memᴰ.cases_cons w)

  pub low-reached : (n : ℕ) → n < start m r D → n ∈ reached v
  low-reached n l = go (ℕ_discrete n 0) (dec_le n m)
    where
      go : Dec (n ≡ 0) → Dec (n ≤ m) → n ∈ reached v
      go (yes e) d = Memᴰ.head e
      go (no z) (yes u) = Memᴰ.tail (Memᴰ.append_left {s = map_chain v} (tree_nodes v) (rw s.chain (in-range 1 m (omega arith) (omega arith))))
      go (no z) (no u) =
          let p = find m r n D (omega arith) l in
          let b = p.inside in
          Memᴰ.tail (Memᴰ.append_right (map_chain v)
          (mem-span 0 depth (D - suc p.height) (λ d. below v d root) (omega arith) (omega (arith, s.depth))
          (rw (level v K m r D deep s (D - suc p.height) p.height (omega arith)) (in-range (start m r p.height) (nodes_at r p.height) p.from p.to))))
