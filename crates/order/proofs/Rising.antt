-- Keys of a node that ascend: all are below what the last is below, so that none is wrong where the first is the one that points at the node.
-- Assumes nothing.
use mathlib.Core.Path.{◌≡◌, refl}
use mathlib.Core.Option.{Option, none, some}
use Prim.Native.Nat.{ℕ, zero, suc, pred, ◌+◌, ◌-◌, ◌<◌, ◌≤◌}
use native.Mathlib.Nat.{add-suc, add-zero, zero-add}
use native.Mathlib.Numerals.{add-one}
use native.Mathlib.Omega.{arith}
use Rattle.btree.specs.Tree.{View}
use Rattle.btree.specs.Walk.{Under, wrong_key}
use Rattle.btree.specs.Keys.{FirstMeets}
use Rattle.btree.proofs.Keys.{from-before, rises-ordered, ordered-none}
use Rattle.order.specs.Whole.{Ascends, Rising}

under-trans : (k b : ℕ) (o : Option ℕ) → k ≤ b → Under b o → Under k o
under-trans k b none l u = tt
under-trans k b (some t) l u = omega arith

module _ (v : View) (n : ℕ) (a : Ascends v n) where
  open v use {key, count}

  up : (i d : ℕ) → i + d < count n → key n i ≤ key n (i + d)
  up i zero h = rw (add-zero i) (omega arith)
  up i (suc d) h =
      let e = add-suc i d in
      let s = a (i + d) (omega arith) in
      let q = up i d (omega arith) in
      rw e (omega arith)

  pub from_first : (i : ℕ) → i < count n → key n 0 ≤ key n i
  from_first i h = let q = up 0 i (omega arith) in rw (zero-add i) at q

  pub to_last : (i : ℕ) → i < count n → key n i ≤ key n (count n - 1)
  to_last i h =
      let e : i + (count n - 1 - i) ≡ count n - 1 = omega arith in
      let q = up i (count n - 1 - i) (omega arith) in
      rw e at q

pub none-wrong : (v : View) (lo hi : Option ℕ) (n : ℕ) → FirstMeets v lo n → Rising v hi n → wrong_key v lo hi n ≡ none
none-wrong v lo hi n f r =
    ordered-none v lo hi n (rises-ordered v lo hi n f
    (λ i l. (from-before (v.key n) (v.count n) r.ascend i l, under-trans (v.key n i) (v.key n (v.count n - 1)) hi (to_last v n r.ascend i l) r.last)))

-- keys of which one is not below the next do not ascend
pub not-ascending : (v : View) (n i : ℕ) → v.key n (i + 1) ≤ v.key n i → suc i < v.count n → Ascends v n → ⊥
not-ascending v n i b h a = let q : v.key n i < v.key n (i + 1) = rw (add-one i) (a i h) in omega arith

-- the record before
pub before-is : (i : ℕ) → (i ≡ 0 → ⊥) → i - 1 ≡ pred i
before-is zero h = absurd (h refl)
before-is (suc i) h = omega arith
