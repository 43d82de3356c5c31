-- No tree with as many records has fewer nodes, whatever its shape: from the counts alone.
-- Assumes nothing.
use mathlib.Core.Path.{◌≡◌, refl, ap, ◌∙◌}
use mathlib.Core.List.Memᴰ
use mathlib.Core.List.{List, [], ◌∷◌}
use Prim.Native.Nat.{ℕ, zero, suc, ◌+◌, ◌-◌, ◌≤◌}
use native.Mathlib.Omega.{arith}
use native.Mathlib.Decide.{ℕ_discrete, dec_le}
use lib.ListN.{length, length-append}
use Rattle.btree.specs.Lists.{◌∈◌, span}
use Rattle.btree.specs.Tree.{View, below, OnLevel, leaves_at, tree_nodes, record_count}
use Rattle.btree.proofs.Lists.{ones-length}
use Rattle.shape.specs.Shape.{fanout, first_in, entries_at, nodes_at}
use Rattle.shape.proofs.Shaped.{tree_size, Deep}
use Rattle.shape.proofs.Shape.{first-suc, group-least, leaf-nodes}
use Rattle.shape.proofs.Levels.{below_last, counts-length}

size_mono : (r a b : ℕ) → a ≤ b → tree_size r a ≤ tree_size r b
unfolding tree_size
size_mono r a zero l = let z : a ≡ 0 = omega arith in rw z (omega arith)
size_mono r a (suc b) l = go (ℕ_discrete a (suc b)) (size_mono r a b)
  where
    go : Dec (a ≡ suc b) → (a ≤ b → tree_size r a ≤ tree_size r b) → tree_size r a ≤ tree_size r b + nodes_at r b
    go (yes e) f = rw e (omega arith)
    go (no n) f = let x = f (omega arith) in omega arith

size-one : (r : ℕ) → tree_size r 1 ≡ nodes_at r 0
unfolding tree_size
size-one r = omega arith

module _ (v : View) where
  open v use {depth, root, count, child}

  records-most : (h : ℕ) (ns : List ℕ) → ((n : ℕ) → n ∈ ns → count n ≤ fanout h) → record_count v ns ≤ first_in h (length ns)
  records-most h [] f = omega arith
  records-most h (n ∷ ns) f =
      let a = f n (Memᴰ.head refl) in
      let b = records-most h ns (λ x w. f x (Memᴰ.tail w)) in
      let c = first-suc h (length ns) in
      omega arith

  module _ (most : (d n : ℕ) → OnLevel v d n → count n ≤ fanout (depth - suc d)) where
    level-most : (d h : ℕ) → d + suc h ≡ depth → record_count v (below v d root) ≤ first_in h (length (below v d root))
    level-most d h e =
        let z : depth - suc d ≡ h = omega arith in
        records-most h (below v d root) (λ n w. rw z at (most d n (record { deep = omega arith; among = w })))

    level-least : (d h : ℕ) → d + suc h ≡ depth → nodes_at (record_count v (leaves_at v depth)) h ≤ length (below v d root)
    unfolding entries_at
    level-least d zero e =
        let z : depth ≡ suc d = omega arith in
        group-least 0 _ (length (below v d root)) (rw z (level-most d 0 e))
    level-least d (suc h) e =
        let a = level-least (suc d) h (omega arith) in
        let b = ap length (below_last v d root) ∙ counts-length v (below v 1) (λ n. ones-length 0 (count n) (child n)) (below v d root) in
        let c = level-most d (suc h) e in
        group-least (suc h) _ (length (below v d root)) (omega arith)

    levels-least : (i n : ℕ) → i + n ≡ depth → tree_size (record_count v (leaves_at v depth)) n ≤ length (span i n (λ d. below v d root))
    unfolding tree_size
    levels-least i zero e = omega arith
    levels-least i (suc n) e =
        let a = level-least i n e in
        let b = levels-least (suc i) n (omega arith) in
        rw (length-append (below v i root) (span (suc i) n (λ d. below v d root))) (omega arith)

    -- the leaves alone are nodes of the tree
    pub leaves-least : nodes_at (record_count v (leaves_at v depth)) 0 ≤ length (tree_nodes v)
    leaves-least = go depth refl
      where
        go : (x : ℕ) → depth ≡ x → nodes_at (record_count v (leaves_at v depth)) 0 ≤ length (tree_nodes v)
        go zero e = let z : record_count v (leaves_at v depth) ≡ 0 = rw e in let a = leaf-nodes (record_count v (leaves_at v depth)) in omega arith
        go (suc x) e =
            let a = size_mono (record_count v (leaves_at v depth)) 1 depth (omega arith) in
            let b = levels-least 0 depth (omega arith) in
            let c = size-one (record_count v (leaves_at v depth)) in
            omega arith

    deep-least : (x D : ℕ) → depth ≡ x → Deep (record_count v (leaves_at v depth)) D → D ≤ x
    deep-least zero D e deep = let z : record_count v (leaves_at v depth) ≡ 0 = rw e in let a = deep.some z in omega arith
    deep-least (suc x) D e deep = go (dec_le D (suc x))
      where
        go : Dec (D ≤ suc x) → D ≤ suc x
        go (yes l) = l
        go (no n) = let a = deep.more x (omega arith) in let b = level-least 0 x (omega arith) in absurd (omega arith)

    pub tree-least : (r D : ℕ) → record_count v (leaves_at v depth) ≡ r → Deep r D → tree_size r D ≤ length (tree_nodes v)
    tree-least r D e deep =
        let a = deep-least depth D refl (rw (← e) at deep) in
        let b = size_mono r D depth a in
        let c = rw e at (levels-least 0 depth (omega arith)) in
        omega arith
