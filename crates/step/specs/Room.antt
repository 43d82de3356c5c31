-- The counts of a walk, and that they fit.
-- Assumes nothing.
use Rattle.std.specs.Prelude.{List, ℕ, zero, suc, ◌+◌, ◌*◌, ◌<◌, ◌≤◌}
use Rattle.image.specs.Bit.{bit_of}
use Rattle.step.specs.declared.state.Walk.{Walk}

-- how many of the first n bits are set
unfoldable pub ones : List ℕ → ℕ → ℕ
ones bits zero = 0
ones bits (suc n) = ones bits n + bit_of bits n

-- no more nodes, and no more records, than the bits set allow
pub record Small (bits : List ℕ) (w : Walk) : Type 0 where
  pub records : w.records ≤ 65535 * ones bits 65536
  pub nodes : w.nodes ≤ 65536 + ones bits 65536

-- a state that has room for a node with c records
pub record Keepable (w : Walk) (d c : ℕ) : Type 0 where
  pub level : d < 8
  pub records : w.records + c < 4294967296
  pub nodes : w.nodes < 1000000
