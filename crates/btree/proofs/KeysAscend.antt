-- Keys that strictly ascend.
-- Assumes nothing.
use mathlib.Core.Path.{◌≡◌}
use Prim.Native.Nat.{ℕ, ◌≤◌, ◌<◌}
use native.Mathlib.Omega.{arith}
use native.Mathlib.Decide.{ℕ_discrete, dec_lt}

module _ (key : ℕ → ℕ) (c : ℕ) (up : (i j : ℕ) → i < j → j < c → key i < key j) where
  pub up_to : (i j : ℕ) → i ≤ j → j < c → key i ≤ key j
  up_to i j l u = go (ℕ_discrete i j)
    where
      go : Dec (i ≡ j) → key i ≤ key j
      go (yes e) = rw e (omega arith)
      go (no ne) = let z = up i j (omega arith) u in omega arith

  -- two records that have one key are one
  pub one_key : (i j : ℕ) → i < c → j < c → key i ≡ key j → i ≡ j
  one_key i j a b e = go (dec_lt i j) (dec_lt j i)
    where
      go : Dec (i < j) → Dec (j < i) → i ≡ j
      go (yes l) m = let z = up i j l b in absurd (omega arith)
      go (no l) (yes m) = let z = up j i m a in absurd (omega arith)
      go (no l) (no m) = omega arith
