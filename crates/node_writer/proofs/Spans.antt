-- The turns of a loop over the nodes of a level: what is left is one node and what is left after it.
-- Assumes nothing.
use mathlib.Core.Path.{◌≡◌}
use mathlib.Core.List.{List, [], ◌++◌}
use Prim.Native.Nat.{ℕ, suc, ◌+◌, ◌-◌, ◌≤◌, ◌<◌}
use native.Mathlib.Omega.{arith}
use Rattle.btree.specs.Lists.{span}

module _ (f : ℕ → List ℕ) (n : ℕ) where
  pub span-on : (k : ℕ) → k < n → f k ++ span (k + 1) (n - (k + 1)) f ≡ span k (n - k) f
  span-on k l =
      let z : n - k ≡ suc (n - (k + 1)) = omega arith in
      let y : k + 1 ≡ suc k = omega arith in
      rw (z, y)

  pub span-end : (k : ℕ) → n ≤ k → span k (n - k) f ≡ []
  span-end k l = let z : n - k ≡ 0 = omega arith in rw z
