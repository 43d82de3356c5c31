-- Test 6 of a node: the first record whose key is not right, and as little as has to be tested: where its keys ascend from the one that points at it, none
-- is below that.
-- Assumes nothing.
use mathlib.Core.Path.{◌≡◌, refl}
use mathlib.Core.Logic.{◌↔◌}
use mathlib.Core.Option.{Option, none, some}
use Prim.Native.Nat.{ℕ, zero, suc, pred, ◌≤◌, ◌<◌}
use native.Mathlib.Omega.{arith}
use native.Mathlib.Decide.{ℕ_discrete, dec_lt}
use Rattle.btree.specs.Decide.{first_not}
use Rattle.btree.specs.Tree.{View}
use Rattle.btree.specs.Walk.{Over, Meets, KeyRight, dec_key_right, wrong_key}
use Rattle.btree.specs.Keys.{Rises, dec_rises, first_fall, FirstMeets}
use Rattle.btree.proofs.Decisions.{not_none, none-not, not_first, not_some, not_same}

pub over-trans : (k b : ℕ) (o : Option ℕ) → b ≤ k → Over b o → Over k o
over-trans k b none l u = tt
over-trans k b (some t) l u = omega arith

-- keys that ascend to the next ascend from the one before
pub from-before : (f : ℕ → ℕ) (c : ℕ) → ((i : ℕ) → suc i < c → f i < f (suc i)) → (i : ℕ) → i < c → 0 < i → f (pred i) < f i
from-before f c h zero u p = absurd (omega arith)
from-before f c h (suc i) u p = h i u

meets-over : (k : ℕ) (o : Option ℕ) → Meets k o → Over k o
meets-over k none m = tt
meets-over k (some b) m = omega arith

-- test 6, of all records of a node
abbrev pub Ordered : View → Option ℕ → Option ℕ → ℕ → Type 0
Ordered v lo hi n = (i : ℕ) → i < v.count n → KeyRight v lo hi n i

module _ (v : View) (lo hi : Option ℕ) (n : ℕ) where
  open v use {count, key}

  -- of keys that rise from the one that points at the node
  over-all : FirstMeets v lo n → (i : ℕ) → i < count n → ((j : ℕ) → j ≤ i → Rises v hi n j) → Over (key n i) lo
  over-all f zero u r = meets-over (key n 0) lo (f u)
  over-all f (suc i) u r =
      let l = (r (suc i) (omega arith)).0 (omega arith) in
      over-trans (key n (suc i)) (key n i) lo (omega arith) (over-all f i (omega arith) (λ j w. r j (omega arith)))

  right-rises : (i : ℕ) → KeyRight v lo hi n i → Rises v hi n i
  right-rises i r = (r.rise, r.under)

  rises-right : FirstMeets v lo n → (i : ℕ) → i < count n → ((j : ℕ) → j ≤ i → Rises v hi n j) → KeyRight v lo hi n i
  rises-right f i u r =
      let (a, b) = r i (omega arith) in record { rise = a; over = over-all f i u r; under = b; first = λ e. rw e (f (omega arith)) }

  pub rises-ordered : FirstMeets v lo n → ((i : ℕ) → i < count n → Rises v hi n i) → Ordered v lo hi n
  rises-ordered f r i u = rises-right f i u (λ j w. r j (omega arith))

  -- where the first key is the one that points at the node, only the rise has to be tested
  pub wrong-fall : FirstMeets v lo n → wrong_key v lo hi n ≡ first_fall v hi n
  unfolding wrong_key first_fall
  wrong-fall f =
      not_same (dec_key_right v lo hi n) (dec_rises v hi n) (count n) (λ i u before. (
        right-rises i,
        λ r. rises-right f i u (λ j w. upto i before r j w (ℕ_discrete j i)),
      ))
    where
      upto : (i : ℕ) → ((j : ℕ) → j < i → Rises v hi n j) → Rises v hi n i → (j : ℕ) → j ≤ i → Dec (j ≡ i) → Rises v hi n j
      upto i before r j w (yes e) = rw e r
      upto i before r j w (no ne) = before j (omega arith)

  -- and else it is the first that is wrong
  pub wrong-zero : (FirstMeets v lo n → ⊥) → wrong_key v lo hi n ≡ some 0
  unfolding wrong_key
  wrong-zero h = go (dec_lt 0 (count n))
    where
      go : Dec (0 < count n) → first_not (dec_key_right v lo hi n) 0 (count n) ≡ some 0
      go (yes u) = not_first (dec_key_right v lo hi n) 0 0 (count n) (omega arith) (omega arith) (λ j l w. absurd (omega arith)) (λ r. h (λ _. r.first refl))
      go (no u) = absurd (h (λ w. absurd (u w)))

  -- it is the first in record order: those before it are right
  pub wrong-iff : (i : ℕ) → (wrong_key v lo hi n ≡ some i) ↔ ((i < count n) × (KeyRight v lo hi n i → ⊥) × ((j : ℕ) → j < i → KeyRight v lo hi n j))
  unfolding wrong_key
  wrong-iff i = (
    λ e. let w = not_some (dec_key_right v lo hi n) i 0 (count n) e in (omega (arith, w.inside), w.fails, λ j u. w.before j (omega arith) u),
    λ (u, no-right, before). not_first (dec_key_right v lo hi n) i 0 (count n) (omega arith) (omega arith) (λ j l. before j) no-right,
  )

  pub none-ordered : wrong_key v lo hi n ≡ none → Ordered v lo hi n
  unfolding wrong_key
  none-ordered e i u = not_none (dec_key_right v lo hi n) 0 (count n) e i (omega arith) (omega arith)

  pub ordered-none : Ordered v lo hi n → wrong_key v lo hi n ≡ none
  unfolding wrong_key
  ordered-none o = none-not (dec_key_right v lo hi n) 0 (count n) (λ i l u. o i (omega arith))
