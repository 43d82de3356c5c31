-- What the code writes of a leaf is the leaf that is laid down, and the turns of the loop over the leaves.
-- Assumes nothing.
use mathlib.Core.Path.{◌≡◌, refl, sym, ap, ◌∙◌}
use mathlib.Core.List.{List, ◌++◌}
use Prim.Native.Nat.{ℕ, zero, suc, ◌+◌, ◌-◌, ◌*◌, ◌/◌, ◌%◌, ◌≤◌, ◌<◌, min}
use native.Mathlib.Omega.{arith}
use native.Mathlib.Decide.{dec_lt}
use lib.ListN.{length, take, drop, length-drop}
use lib.Seq.{take-add, drop-drop, length-take-le}
use Rattle.btree.specs.Decide.{cond}
use Rattle.btree.specs.Lists.{span}
use Rattle.shape.specs.Shape.{fanout, first_in, record_under, entries_at, nodes_at, held, start}
use Rattle.shape.proofs.Shape.{start_first, leaf-nodes}
use Rattle.laid.specs.Laid.{size_at, kind_at, back_to, entry, node}
use Rattle.laid.proofs.Bytes.{span-length}
use Rattle.laid.proofs.Nodes.{node-length}
use Rattle.node_writer.specs.Parts.{framed, leaf_node}
use Rattle.node_writer.proofs.Spans.{span-on}
use Rattle.level_writer.specs.Parts.{leaves_from}

cut-span : (row : List ℕ) (q c : ℕ) → span q c (λ q. take 20 (drop (q * 20) row)) ≡ take (c * 20) (drop (q * 20) row)
cut-span row q zero = refl
cut-span row q (suc c) =
    let z : suc c * 20 ≡ 20 + c * 20 = omega arith in
    let y : suc q * 20 ≡ q * 20 + 20 = omega arith in
    rw (cut-span row (suc q) c, z, y)
    (ap (λ x. take 20 (drop (q * 20) row) ++ take (c * 20) x) (sym (drop-drop 20 (q * 20) row)) ∙ sym (take-add 20 (c * 20) (drop (q * 20) row)))

module _ (row : List ℕ) (m r : ℕ) where
  leaf-span : (q c : ℕ) → span q c (entry row m r 0) ≡ take (c * 20) (drop (q * 20) row)
  unfolding entry record_under
  leaf-span q c = cut-span row q c

  -- a leaf
  pub leaf-is : (k : ℕ) → (first_in 0 k + held r 0 k) * 20 ≤ length row
      → node row m r 0 k ≡ leaf_node (cond (dec_lt (suc k) (nodes_at r 0)) (start m r 0 + suc k) 0) (back_to (start m r 0) k) (take (held r 0 k * 20) (drop (first_in 0 k * 20) row))
  unfolding node leaf_node framed size_at kind_at
  leaf-is k l =
      let c = held r 0 k in
      let a : length (take (c * 20) (drop (first_in 0 k * 20) row)) ≡ c * 20 = length-take-le (c * 20) (drop (first_in 0 k * 20) row) (rw (length-drop (first_in 0 k * 20) row) (omega arith)) in
      let b : length (take (c * 20) (drop (first_in 0 k * 20) row)) / 20 ≡ c = omega arith in
      rw (b, leaf-span (first_in 0 k) c)

held-leaf : (r k : ℕ) → held r 0 k ≡ min 22 (r - k * 22)
unfolding held fanout entries_at first_in
held-leaf r k = refl

first_leaf : (k : ℕ) → first_in 0 k ≡ k * 22
unfolding first_in
first_leaf k = refl

leaf-turn : (row : List ℕ) (s n k to f b : ℕ) → length row % 20 ≡ 0 → 1 ≤ s → n ≡ (length row / 20 + 21) / 22 → k < n
    → to - 440 * k ≡ min 440 (length row - 440 * k) → f ≡ cond (dec_lt (k + 1) n) (s + (k + 1)) 0 → b ≡ back_to s k
    → node row (s - 1) (length row / 20) 0 k ≡ leaf_node f b (take (to - 440 * k) (drop (440 * k) row))
leaf-turn row s n k to f b w p e l t ef eb =
    let r = length row / 20 in
    let hl = held-leaf r k in
    let fl = first_leaf k in
    let e_s : start (s - 1) r 0 ≡ s = omega (arith, start_first (s - 1) r) in
    let e_n : nodes_at r 0 ≡ n = leaf-nodes r ∙ sym e in
    let e_f : first_in 0 k * 20 ≡ 440 * k = omega arith in
    let e_h : held r 0 k * 20 ≡ to - 440 * k = omega arith in
    let y : k + 1 ≡ suc k = omega arith in
    leaf-is row (s - 1) r k (omega arith)
    ∙ ap (λ x. leaf_node (cond (dec_lt (suc k) (nodes_at r 0)) (x + suc k) 0) (back_to x k) (take (held r 0 k * 20) (drop (first_in 0 k * 20) row))) e_s
    ∙ ap (λ x. leaf_node (cond (dec_lt (suc k) x) (s + suc k) 0) (back_to s k) (take (held r 0 k * 20) (drop (first_in 0 k * 20) row))) e_n
    ∙ ap (λ x. leaf_node (cond (dec_lt x n) (s + x) 0) (back_to s k) (take (held r 0 k * 20) (drop (first_in 0 k * 20) row))) (sym y)
    ∙ ap (λ x. leaf_node x (back_to s k) (take (held r 0 k * 20) (drop (first_in 0 k * 20) row))) (sym ef)
    ∙ ap (λ x. leaf_node f x (take (held r 0 k * 20) (drop (first_in 0 k * 20) row))) (sym eb)
    ∙ ap (λ x. leaf_node f b (take x (drop (first_in 0 k * 20) row))) e_h
    ∙ ap (λ x. leaf_node f b (take (to - 440 * k) (drop x row))) e_f

-- what is written of leaf k, and what is left after it
pub leaves-on : (row : List ℕ) (s n k to f b : ℕ) → length row % 20 ≡ 0 → 1 ≤ s → n ≡ (length row / 20 + 21) / 22 → k < n
    → to - 440 * k ≡ min 440 (length row - 440 * k) → f ≡ cond (dec_lt (k + 1) n) (s + (k + 1)) 0 → b ≡ back_to s k
    → leaf_node f b (take (to - 440 * k) (drop (440 * k) row)) ++ leaves_from row s (k + 1) (n - (k + 1)) ≡ leaves_from row s k (n - k)
leaves-on row s n k to f b w p e l t ef eb =
    ap (λ x. x ++ leaves_from row s (k + 1) (n - (k + 1))) (sym (leaf-turn row s n k to f b w p e l t ef eb)) ∙ span-on (node row (s - 1) (length row / 20) 0) n k l

pub leaves-long : (row : List ℕ) (s n : ℕ) → length row % 20 ≡ 0 → length (leaves_from row s 0 n) ≡ 512 * n
leaves-long row s n w =
    span-length 512 0 n (node row (s - 1) (length row / 20) 0) (λ j l u. node-length row (s - 1) (length row / 20) (omega arith) 0 j) ∙ omega arith

pub part-fits : (row : List ℕ) (k to : ℕ) → length row % 20 ≡ 0 → to - 440 * k ≡ min 440 (length row - 440 * k)
    → (length (take (to - 440 * k) (drop (440 * k) row)) ≤ 440) × (length (take (to - 440 * k) (drop (440 * k) row)) % 20 ≡ 0)
part-fits row k to w e =
    let a : length (take (to - 440 * k) (drop (440 * k) row)) ≡ to - 440 * k = length-take-le (to - 440 * k) (drop (440 * k) row) (rw (length-drop (440 * k) row) (omega arith)) in
    (omega arith, omega arith)
