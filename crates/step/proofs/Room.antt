-- The counts of a walk fit: a node that was not marked and now is leaves room for as many records more as a count field holds.
-- Assumes nothing.
use mathlib.Core.Path.{◌≡◌, refl, sym}
use mathlib.Core.Bool.{Bool, true, false}
use mathlib.Core.List.{List}
use Prim.Native.Nat.{ℕ, zero, suc, ◌+◌, ◌*◌, ◌/◌, ◌<◌, ◌≤◌}
use native.Mathlib.Omega.{arith}
use native.Mathlib.Decide.{ℕ_discrete}
use lib.ListN.{length}
use Rattle.image.specs.Bit.{bit_of}
use Rattle.image.specs.Set.{with_bit}
use Rattle.image.proofs.Laws.{marked-same, marked_other, bit-small}
use Rattle.step.specs.declared.state.Walk.{Walk}
use Rattle.btree.specs.Tells.{pick}
use Rattle.step.specs.State.{kept}
use Rattle.step.specs.Room.{ones, Small}

module _ (bits : List ℕ) (n : ℕ) (l : n / 8 < length bits) where
  ones-same : (k : ℕ) → k ≤ n → ones (with_bit bits n) k ≡ ones bits k
  unfolding ones
  ones-same zero h = refl
  ones-same (suc k) h = rw (ones-same k (omega arith), marked_other bits n k l (λ z. omega arith))

  ones-more : bit_of bits n ≡ 0 → (k : ℕ) → n < k → ones (with_bit bits n) k ≡ ones bits k + 1
  unfolding ones
  ones-more u zero h = absurd (omega arith)
  ones-more u (suc k) h = go (ℕ_discrete n k) (ones-more u k)
    where
      go : Dec (n ≡ k) → (n < k → ones (with_bit bits n) k ≡ ones bits k + 1) → ones (with_bit bits n) k + bit_of (with_bit bits n) k ≡ ones bits k + bit_of bits k + 1
      go (yes e) r = rw (ones-same k (omega arith), ← e, marked-same bits n l, u) (omega arith)
      go (no ne) r = rw (r (omega arith), marked_other bits n k l (λ z. ne (sym z))) (omega arith)

ones-le : (bits : List ℕ) (k : ℕ) → ones bits k ≤ k
unfolding ones
ones-le bits zero = omega arith
ones-le bits (suc k) = omega (arith, ones-le bits k, bit-small bits k)

pub nodes-fit : (b : List ℕ) (w : Walk) → Small b w → w.nodes < 1000000
nodes-fit b w s = omega (arith, s.nodes, ones-le b 65536)

pub records-most : (b : List ℕ) (w : Walk) → Small b w → w.records < 4294967296
records-most b w s = omega (arith, s.records, ones-le b 65536)

-- a node that is not marked yet
module _ (b : List ℕ) (w : Walk) (n : ℕ) (range : n < 65536) (room : n / 8 < length b) (unmarked : bit_of b n ≡ 0) (c : ℕ) (count : c < 65536) (s : Small b w) where
  more : ones (with_bit b n) 65536 ≡ ones b 65536 + 1
  more = ones-more b n room unmarked 65536 range

  pub small-kept : (d : ℕ) (leaf : Bool) → Small (with_bit b n) (kept w n d leaf c)
  unfolding kept
  small-kept d leaf = record { records = rw more (go leaf); nodes = rw more (omega (arith, s.nodes)) }
    where
      go : (leaf : Bool) → w.records + pick leaf c 0 ≤ 65535 * (ones b 65536 + 1)
      go true = omega (arith, s.records)
      go false = omega (arith, s.records)

  pub records-fit : w.records + c < 4294967296
  records-fit = omega (arith, s.records, more, ones-le (with_bit b n) 65536)
