-- The index levels as they are written are those that are laid down, and each has its place.
-- Assumes nothing.
use mathlib.Core.Path.{◌≡◌, refl, sym, ap, ◌∙◌}
use mathlib.Core.List.{List, [], ◌∷◌, ◌++◌}
use Prim.Native.Nat.{ℕ, zero, suc, ◌+◌, ◌-◌, ◌*◌, ◌≤◌, ◌<◌, min}
use native.Mathlib.Nat.{mul_assoc}
use native.Mathlib.Omega.{arith}
use native.Mathlib.Decide.{dec_lt}
use lib.ListN.{take, drop}
use Rattle.put.specs.Put.{be32}
use Rattle.btree.specs.Decide.{cond}
use Rattle.btree.specs.Lists.{span}
use Rattle.btree.proofs.Lists.{gather_append}
use Rattle.shape.specs.Shape.{fanout, first_in, record_under, nodes_at, held, start}
use Rattle.shape.proofs.Shape.{index-nodes, row_inside, row-linear, row-scale, start-step, start-mono}
use Rattle.shape.proofs.Shaped.{Deep}
use Rattle.shape.proofs.Levels.{span_same}
use Rattle.laid.specs.Laid.{size_at, kind_at, back_to, entry, node, level_nodes, joined}
use Rattle.node_writer.specs.Parts.{framed, indexed, index_node}
use Rattle.level_writer.specs.Parts.{index_at, LevelIn, index_levels, levels_size, LevelsIn}

-- joined nodes, one after another
pub joined-ones : (f : ℕ → List ℕ) (i n : ℕ) → joined (span i n (λ k. f k ∷ [])) ≡ span i n f
joined-ones f i zero = refl
joined-ones f i (suc n) = ap (λ x. f i ++ x) (joined-ones f (suc i) n)

-- the keys of an index node are as far apart as the records under its children
far : (h k : ℕ) → record_under (suc h) (k * 35) * 20 ≡ k * (35 * (record_under (suc h) 1 * 20))
far h k =
    ap (λ x. x * 20) (row-scale (suc h) (k * 35) ∙ mul_assoc k 35 (record_under (suc h) 1))
    ∙ mul_assoc k (35 * record_under (suc h) 1) 20 ∙ ap (λ x. k * x) (mul_assoc 35 (record_under (suc h) 1) 20)

next-step : (h : ℕ) → 35 * (record_under (suc h) 1 * 20) ≡ record_under (suc (suc h)) 1 * 20
unfolding record_under first_in
next-step h = let e = far h 1 in let z : 1 * (35 * (record_under (suc h) 1 * 20)) ≡ 35 * (record_under (suc h) 1 * 20) = omega arith in sym z ∙ sym e

held-index : (r h k : ℕ) → held r (suc h) k ≡ min 35 (nodes_at r h - 35 * k)
unfolding held fanout first_in
held-index r h k = ap (λ x. min 35 (nodes_at r h - x)) (let z : k * 35 ≡ 35 * k = omega arith in z)

first-index : (h k : ℕ) → first_in (suc h) k ≡ k * 35
unfolding first_in
first-index h k = refl

module _ (row : List ℕ) (m r : ℕ) where
  index-span : (h q c : ℕ) → span q c (entry row m r (suc h)) ≡ indexed c (record_under (suc h) q * 20) (record_under (suc h) 1 * 20) (start m r h + q) row
  unfolding entry indexed
  index-span h q zero = refl
  index-span h q (suc c) =
      let w : q + 1 ≡ suc q = omega arith in
      let e = row-linear (suc h) q 1 in
      let z : record_under (suc h) (suc q) * 20 ≡ record_under (suc h) q * 20 + record_under (suc h) 1 * 20 = omega (arith, rw w at e) in
      let y : start m r h + suc q ≡ start m r h + q + 1 = omega arith in
      ap (λ x. (take 8 (drop (record_under (suc h) q * 20) row) ++ be32 (start m r h + q)) ++ x)
      (index-span h (suc q) c ∙ ap (λ x. indexed c x (record_under (suc h) 1 * 20) (start m r h + suc q) row) z
      ∙ ap (λ x. indexed c (record_under (suc h) q * 20 + record_under (suc h) 1 * 20) (record_under (suc h) 1 * 20) x row) y)

  -- an index node
  pub index_is : (h k : ℕ)
      → node row m r (suc h) k
      ≡ index_node (cond (dec_lt (suc k) (nodes_at r (suc h))) (start m r (suc h) + suc k) 0) (back_to (start m r (suc h)) k) (suc (suc h)) (held r (suc h) k)
      (record_under (suc h) (first_in (suc h) k) * 20) (record_under (suc h) 1 * 20) (start m r h + first_in (suc h) k) row
  unfolding node index_node framed size_at kind_at
  index_is h k = rw (index-span h (first_in (suc h) k) (held r (suc h) k))

  -- node k of a level, as it is written
  level-node : (h k : ℕ) → index_at (suc (suc h)) (start m r (suc h)) (nodes_at r (suc h)) (start m r h) (nodes_at r h) (record_under (suc h) 1 * 20) row k ≡ node row m r (suc h) k
  unfolding index_at
  level-node h k =
      let y : k + 1 ≡ suc k = omega arith in
      let z : k * 35 ≡ 35 * k = omega arith in
      sym (index_is h k
      ∙ rw (held-index r h k, first-index h k, far h k, z, y))

  -- so many levels from height h + 1 on
  pub levels-is : (f h : ℕ) → index_levels row f (h + 2) (start m r h) (nodes_at r h) (record_under (suc h) 1 * 20) ≡ joined (span (suc h) f (level_nodes row m r))
  unfolding index_levels
  levels-is zero h = refl
  levels-is (suc f) h =
      let n = nodes_at r (suc h) in
      let a : h + 2 ≡ suc (suc h) = omega arith in
      let b : suc (suc h) + 1 ≡ suc h + 2 = omega arith in
      rw (a, sym (index-nodes r h), sym (start-step m r h), next-step h, b, levels-is f (suc h))
      (ap (λ x. x ++ joined (span (suc (suc h)) f (level_nodes row m r))) (span_same 0 n _ (node row m r (suc h)) (λ k l u. level-node h k) ∙ sym (joined-ones (node row m r (suc h)) 0 n))
      ∙ sym (gather_append (λ x. x) (level_nodes row m r (suc h)) (span (suc (suc h)) f (level_nodes row m r))))

-- and their bytes
pub size_is : (m r f h : ℕ) → 512 * start m r (suc h) + levels_size f (nodes_at r h) ≡ 512 * start m r (suc h + f)
unfolding levels_size
size_is m r zero h = let z : suc h + 0 ≡ suc h = omega arith in rw z (omega arith)
size_is m r (suc f) h =
    let z : suc h + suc f ≡ suc (suc h) + f = omega arith in
    let a = size_is m r f (suc h) in
    let b = start-step m r (suc h) in
    rw (z, sym (index-nodes r h)) (omega arith)

module _ (m r D size len : ℕ) (deep : Deep r D) (few : start m r D ≤ 65536) (room : 512 * start m r D ≤ size) (long : r * 20 ≤ len) (short : len ≤ 33554432) where
  reach : (h q : ℕ) → q < nodes_at r h → q * (record_under (suc h) 1 * 20) + 8 ≤ len
  reach h q l =
      let a = row_inside r (suc h) q l in
      let e = row-scale (suc h) q in
      let g = mul_assoc q (record_under (suc h) 1) 20 in
      omega arith

  pub levels-in : (f h : ℕ) → suc h + f ≡ D → LevelsIn size len f (512 * start m r (suc h)) (start m r h) (nodes_at r h) (record_under (suc h) 1 * 20)
  unfolding LevelsIn
  levels-in zero h e = tt
  levels-in (suc f) h e = rw (sym (index-nodes r h), sym (start-step m r h), next-step h, next-at) (this, levels-in f (suc h) (omega arith))
    where
      upper : start m r (suc h) + nodes_at r (suc h) ≤ start m r D
      upper = start-mono m r (suc h) D (omega arith)

      next-at : 512 * start m r (suc h) + 512 * nodes_at r (suc h) ≡ 512 * start m r (suc (suc h))
      next-at = let b = start-step m r (suc h) in omega arith

      near : record_under (suc h) 1 * 20 ≤ len
      near = let a = reach h 1 (deep.more h (omega arith)) in let z : 1 * (record_under (suc h) 1 * 20) ≡ record_under (suc h) 1 * 20 = omega arith in omega arith

      this : LevelIn size (512 * start m r (suc h)) len (start m r (suc h)) (nodes_at r (suc h)) (start m r h) (nodes_at r h) (record_under (suc h) 1 * 20)
      this =
          record {
            nodes = index-nodes r h;
            reach = reach h;
            room = omega (arith, upper);
            few = omega (arith, upper);
            children = let b = start-step m r h in omega (arith, upper);
            long = short;
            near = omega (arith, near);
          }
