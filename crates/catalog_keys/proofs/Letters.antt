-- Rules of the character order, each proved by one computation over the table.
-- Assumes nothing.
use mathlib.Core.Path.{◌≡◌}
use mathlib.Core.Bool.{Bool}
use Prim.Native.Nat.{ℕ, ◌+◌, ◌<◌}
use native.Mathlib.Omega.{arith}
use native.Mathlib.Decide.{dec_lt}
use lib.Dec.{eqb, ltb, eqb→eq, ltb→lt}
use lib.ListN.{get_or, take, drop, get_or-eq_default}
use lib.Seq.{get_or-take, get_or-drop}
use Rattle.catalog_keys.specs.Weights.{weights, weight}
use Rattle.catalog_keys.proofs.Table.{at}

is_byte : ℕ → ℕ → Bool
is_byte k w = ltb w 256

-- every weight is a byte
pub weight-small : (b : ℕ) → weight b < 256
unfolding weights weight is_byte
weight-small b = go (dec_lt b 256)
  where
    go : Dec (b < 256) → weight b < 256
    go (yes h) = ltb→lt _ _ (at is_byte weights tt b h)
    go (no h) = let e = get_or-eq_default weights 0 {n = b} (omega arith) in omega arith

as_capital : ℕ → ℕ → Bool
as_capital k w = eqb w (get_or weights (65 + k) 0)

-- "That a small letter a to z weighs as its capital is proved once over the table": letter k of the alphabet, over the 26 places from 97 on
pub letter-as-capital : (k : ℕ) → k < 26 → weight (97 + k) ≡ weight (65 + k)
unfolding weights weight as_capital
letter-as-capital k h = eqb→eq _ _ (rw get_or-drop at (rw get_or-take at (at as_capital (take 26 (drop 97 weights)) tt k h)))
