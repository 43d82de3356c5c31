-- The levels of a tree, counted up from the leaves.
-- Assumes nothing.
use mathlib.Core.Path.{◌≡◌, refl, sym, ap, ◌∙◌}
use Prim.Native.Nat.{ℕ, zero, suc, ◌+◌, ◌-◌, ◌/◌, ◌≤◌, ◌<◌}
use native.Mathlib.Omega.{arith}
use native.Mathlib.Decide.{ℕ_discrete, dec_le}
use Rattle.btree.proofs.Decisions.{cond_yes, cond_no}
use Rattle.shape.specs.Shape.{nodes_at, start, levels_above, levels}
use Rattle.shape.proofs.Shape.{leaf-nodes, index-nodes, start_first, start-step}
use Rattle.laid.specs.Laid.{maps_for, root_for}
use Rattle.tree_writer.specs.Plan.{PlanOf}

pub levels-from : (r : ℕ) → 0 < r → 1 + levels_above 7 (nodes_at r 0) ≡ levels r
unfolding levels
levels-from r l =
    sym (cond_no (ℕ_discrete r 0) 0 (suc (levels_above 7 ((r + 21) / 22))) (λ e. omega arith) ∙ ap (λ x. suc (levels_above 7 x)) (sym (leaf-nodes r)) ∙ (let z : suc (levels_above 7 (nodes_at r 0)) ≡ 1 + levels_above 7 (nodes_at r 0) = omega arith in z))

-- one level more, where there is more than one node
pub above_on : (d n k : ℕ) → d < 8 → 1 < n → k ≡ (n + 34) / 35 → d + levels_above (8 - d) n ≡ d + 1 + levels_above (8 - (d + 1)) k
unfolding levels_above
above_on d n k l u e =
    let z : 8 - d ≡ suc (8 - (d + 1)) = omega arith in
    let f = cond_no (dec_le n 1) 0 (suc (levels_above (8 - (d + 1)) ((n + 34) / 35))) (λ h. omega arith) in
    rw (z, e) (omega (arith, f))

pub above-single : (f n : ℕ) → n ≤ 1 → levels_above f n ≡ 0
unfolding levels_above
above-single zero n l = refl
above-single (suc f) n l = cond_yes (dec_le n 1) 0 (suc (levels_above f ((n + 34) / 35))) l

pub above-none : (d n : ℕ) → 8 ≤ d → levels_above (8 - d) n ≡ 0
unfolding levels_above
above-none d n l = let z : 8 - d ≡ 0 = omega arith in rw z

levels-none : (r : ℕ) → r ≡ 0 → levels r ≡ 0
unfolding levels
levels-none r e = cond_yes (ℕ_discrete r 0) 0 (suc (levels_above 7 ((r + 21) / 22))) e

pub plan-none : (m r : ℕ) → r ≡ 0 → PlanOf m r (record { depth = 0; root = 0; used = 1 + m })
unfolding root_for
plan-none m r e =
    let z = levels-none r e in
    record { is_depth = sym z; is_root = sym (ap (root_for m r) z); is_used = sym (ap (start m r) z ∙ start_first m r) }

-- the top level has been found
pub plan-some : (m r d root n : ℕ) → 1 ≤ d → d ≡ levels r → n ≡ nodes_at r (d - 1) → root ≡ start m r (d - 1) → PlanOf m r (record { depth = d; root = root; used = root + n })
unfolding root_for
plan-some m r d root n l e a b =
    let z : levels r ≡ suc (d - 1) = omega arith in
    record {
      is_depth = e;
      is_root = b ∙ sym (ap (root_for m r) z);
      is_used = ap (λ x. x + n) b ∙ ap (λ x. start m r (d - 1) + x) a ∙ sym (ap (start m r) z ∙ start-step m r (d - 1));
    }

pub next-nodes : (r d n k : ℕ) → 1 ≤ d → n ≡ nodes_at r (d - 1) → k ≡ (n + 34) / 35 → k ≡ nodes_at r (d + 1 - 1)
next-nodes r d n k l e f =
    let z : d + 1 - 1 ≡ suc (d - 1) = omega arith in
    rw (z, f, e) (sym (index-nodes r (d - 1)))

pub next_start : (m r d n root : ℕ) → 1 ≤ d → n ≡ nodes_at r (d - 1) → root ≡ start m r (d - 1) → root + n ≡ start m r (d + 1 - 1)
next_start m r d n root l e b =
    let z : d + 1 - 1 ≡ suc (d - 1) = omega arith in
    rw (z, e, b) (sym (start-step m r (d - 1)))

pub root-most : (m r D : ℕ) → root_for m r D ≤ start m r D
unfolding root_for
root-most m r zero = omega arith
root-most m r (suc h) = let a = start-step m r h in omega arith

pub maps-most : (nodes : ℕ) → nodes ≤ 65536 → maps_for nodes ≤ 20
unfolding maps_for
maps-most nodes l = omega arith
