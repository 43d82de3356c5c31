-- The eight bytes of a key, turned: by parts, so that no number grows too large.
-- Assumes nothing.
use mathlib.Core.Path.{◌≡◌}
use Prim.Native.Nat.{ℕ, ◌+◌, ◌*◌, ◌/◌, ◌%◌, ◌<◌}
use native.Mathlib.Omega.{arith}

-- the first two bytes, and the other six
pub lead-small : (x : ℕ) → x < 18446744073709551616 → x / 281474976710656 < 65536
lead-small x h = omega arith

module _ (rest lead : ℕ) (l : lead < 65536) where
  high : (rest * 65536 + lead) / 4294967296 ≡ rest / 65536
  high = omega arith

  low : (rest * 65536 + lead) % 4294967296 ≡ rest % 65536 * 65536 + lead
  low = omega arith

  first : (rest % 65536 * 65536 + lead) / 256 ≡ rest % 65536 * 256 + lead / 256
  first = omega arith

  last : (rest % 65536 * 65536 + lead) % 256 ≡ lead % 256
  last = omega arith

  pub joined : (rest * 65536 + lead) / 4294967296 * 4294967296 + ((rest * 65536 + lead) % 4294967296 / 256 + (rest * 65536 + lead) % 4294967296 % 256 * 16777216)
      ≡ rest / 65536 * 4294967296 + (rest % 65536 * 256 + lead / 256 + lead % 256 * 16777216)
  joined = rw (high, low, first, last)
