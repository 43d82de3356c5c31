-- The turns of the loop over the nodes of an index level, whose keys lie in the row.
-- Assumes nothing.
use mathlib.Core.Path.{◌≡◌, refl, ap, ◌∙◌}
use mathlib.Core.List.{List, ◌++◌}
use Prim.Native.Nat.{ℕ, ◌+◌, ◌-◌, ◌*◌, ◌≤◌, ◌<◌, min}
use native.Mathlib.Nat.{add-mul, mul_assoc, mul_left_comm, mul-le-mul_right}
use native.Mathlib.Omega.{arith}
use native.Mathlib.Decide.{dec_lt}
use lib.ListN.{length}
use Rattle.btree.specs.Decide.{cond}
use Rattle.btree.specs.Lists.{span}
use Rattle.laid.specs.Laid.{back_to}
use Rattle.laid.proofs.Bytes.{span-length}
use Rattle.node_writer.specs.Parts.{Inside, index_node}
use Rattle.node_writer.proofs.Steps.{index-long}
use Rattle.node_writer.proofs.Spans.{span-on}
use Rattle.level_writer.specs.Parts.{index_at, LevelIn}

-- the key of child 35 k + i is i steps after that of child 35 k
key_of : (k i step : ℕ) → (35 * k + i) * step ≡ k * (35 * step) + i * step
key_of k i step = add-mul (35 * k) i step ∙ ap (λ x. x + i * step) (mul_assoc 35 k step ∙ mul_left_comm 35 k step)

module _ {size at len s n child e step : ℕ} (l : LevelIn size at len s n child e step) (k : ℕ) (u : k < n) where
  -- node k has children
  pub some_left : 35 * k < e
  some_left = omega (arith, l.nodes)

  pub from-inside : k * (35 * step) ≤ len
  from-inside =
      let a = l.reach (35 * k + 0) (omega (arith, some_left)) in
      let b = key_of k 0 step in
      omega (arith, (let z : 0 * step ≡ 0 = omega arith in z))

  pub keys-inside : (c : ℕ) → c ≡ min 35 (e - 35 * k) → Inside c (k * (35 * step)) step len
  keys-inside c h = record {
    reach = λ i b. let a = l.reach (35 * k + i) (omega (arith, some_left)) in let g = key_of k i step in omega arith;
    end =
        let a : c * step ≤ 35 * step = mul-le-mul_right step (omega arith) in
        omega (arith, from-inside, l.long, l.near);
  }

-- what is written of node k, and what is left after it
pub level-on : (level s n child e step : ℕ) (row : List ℕ) (k f b c : ℕ) → k < n → c ≡ min 35 (e - 35 * k) → f ≡ cond (dec_lt (k + 1) n) (s + (k + 1)) 0 → b ≡ back_to s k
    → index_node f b level c (k * (35 * step)) step (child + 35 * k) row ++ span (k + 1) (n - (k + 1)) (index_at level s n child e step row)
    ≡ span k (n - k) (index_at level s n child e step row)
unfolding index_at
level-on level s n child e step row k f b c u ec ef eb = ap (λ x. x ++ span (k + 1) (n - (k + 1)) (index_at level s n child e step row)) one ∙ span-on (index_at level s n child e step row) n k u
  where
    one : index_node f b level c (k * (35 * step)) step (child + 35 * k) row ≡ index_at level s n child e step row k
    one = rw (ec, ef, eb)

pub level-long : {size at s n child e step : ℕ} (level : ℕ) (row : List ℕ) → LevelIn size at (length row) s n child e step
    → length (span 0 n (index_at level s n child e step row)) ≡ 512 * n
unfolding index_at
level-long {s = s} {n = n} {child = child} {e = e} {step = step} level row l =
    span-length 512 0 n (index_at level s n child e step row) (λ k a u.
    index-long _ _ level (min 35 (e - 35 * k)) (k * (35 * step)) step (child + 35 * k) row (omega arith) (keys-inside l k (omega arith) _ refl))
    ∙ omega arith
