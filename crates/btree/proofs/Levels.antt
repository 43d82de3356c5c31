-- Levels that fall by one from parent to child: each node's level and the levels above it make the depth.
-- Assumes nothing.
use mathlib.Core.Path.{◌≡◌}
use mathlib.Core.Logic.{◌↔◌}
use mathlib.Core.List.Memᴰ
use Prim.Native.Nat.{ℕ, zero, suc, ◌+◌, ◌<◌}
use native.Mathlib.Omega.{arith}
use Rattle.btree.specs.Lists.{◌∈◌}
use Rattle.btree.specs.Tree.{View, below, OnLevel}
use Rattle.btree.proofs.Lists.{span-mem}
use Rattle.btree.proofs.Leaves.{on-root, on-child}

module _ (v : View) (level : ℕ → ℕ) where
  open v use {depth, root, count, child}

  -- W-201: "the root's level is the depth, each child's is one less than its parent's"
  pub record Falls : Type 0 where
    pub of_root : 0 < depth → level root ≡ depth
    pub of_child : (d n i : ℕ) → OnLevel v d n → suc d < depth → i < count n → level (child n i) + 1 ≡ level n

  falls_below : Falls → (e d a n : ℕ) → OnLevel v e a → level a + e ≡ depth → e + d < depth → n ∈ below v d a → level n + (e + d) ≡ depth
  falls_below f e zero a n o l u m = rw (Memᴰ.eq_of_singleton m) (omega arith)
  falls_below f e (suc d) a n o l u m =
      let (i, z, w, b) = span-mem 0 (count a) (λ j. below v d (child a j)) m in
      let k = f.of_child e a i o (omega arith) (omega arith) in
      let r = falls_below f (suc e) d (child a i) n (on-child v e a i o (omega arith) (omega arith)) (omega arith) (omega arith) b in
      omega arith

  pub falls-iff : Falls ↔ ((d n : ℕ) → OnLevel v d n → level n + d ≡ depth)
  falls-iff = (there, back)
    where
      there : Falls → (d n : ℕ) → OnLevel v d n → level n + d ≡ depth
      there f d n o =
          let p = o.deep in
          let k = f.of_root (omega arith) in
          let r = falls_below f 0 d root n (on-root v (omega arith)) (omega arith) (omega arith) o.among in
          omega arith

      back : ((d n : ℕ) → OnLevel v d n → level n + d ≡ depth) → Falls
      back h =
          record {
            of_root = λ p. let k = h 0 root (on-root v p) in omega arith;
            of_child = λ d n i o p u. let k = h d n o in let l = h (suc d) (child n i) (on-child v d n i o u p) in omega arith;
          }
