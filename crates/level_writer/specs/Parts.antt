-- The levels of a laid tree, as they are written.
-- Assumes nothing.
use Rattle.std.specs.Prelude.{◌≡◌, List, [], ◌++◌, ℕ, zero, suc, ◌+◌, ◌-◌, ◌*◌, ◌/◌, ◌%◌, ◌≤◌, ◌<◌, min, length}
use Rattle.std.proofs.Math.Decide.{dec_lt}
use Rattle.btree.specs.Decide.{cond}
use Rattle.btree.specs.Lists.{span}
use Rattle.laid.specs.Laid.{back_to, node}
use Rattle.node_writer.specs.Parts.{index_node}

-- n leaves for a row of len bytes, from node s on, have room in size bytes
pub record LeavesOf (size at len s n : ℕ) : Type 0 where
  pub whole : len % 20 ≡ 0
  pub some : 1 ≤ s
  pub nodes : n ≡ (len / 20 + 21) / 22
  pub numbers : s + n < 4294967296
  pub room : at + 512 * n ≤ size

-- n leaves of a row from leaf k on, where the first leaf is node s
abbrev pub leaves_from : (row : List ℕ) (s k n : ℕ) → List ℕ
leaves_from row s k n = span k n (node row (s - 1) (length row / 20) 0)

-- node k of an index level of n nodes, from node s on, over e children, the first of which is `child`; keys are `step` bytes apart
unfoldable pub index_at : (level s n child e step : ℕ) → List ℕ → ℕ → List ℕ
index_at level s n child e step row k =
    index_node (cond (dec_lt (k + 1) n) (s + (k + 1)) 0) (back_to s k) level (min 35 (e - 35 * k)) (k * (35 * step)) step (child + 35 * k) row

-- its nodes have room in size bytes, its keys lie in a row of len bytes, and no sum on the way is too large
pub record LevelIn (size at len s n child e step : ℕ) : Type 0 where
  pub nodes : n ≡ (e + 34) / 35
  pub reach : (q : ℕ) → q < e → q * step + 8 ≤ len
  pub room : at + 512 * n ≤ size
  pub few : s + n ≤ 65536
  pub children : child + e ≤ 65536
  pub long : len ≤ 33554432
  pub near : step ≤ 33554432

module _ (row : List ℕ) where
  -- so many index levels from this level up
  unfoldable pub index_levels : (levels level child e step : ℕ) → List ℕ
  index_levels zero level child e step = []
  index_levels (suc f) level child e step =
      span 0 ((e + 34) / 35) (index_at level (child + e) ((e + 34) / 35) child e step row) ++ index_levels f (level + 1) (child + e) ((e + 34) / 35) (35 * step)

-- their bytes
unfoldable pub levels_size : (levels e : ℕ) → ℕ
levels_size zero e = 0
levels_size (suc f) e = 512 * ((e + 34) / 35) + levels_size f ((e + 34) / 35)

-- each of them is in its place
unfoldable pub LevelsIn : (size len levels at child e step : ℕ) → Type 0
LevelsIn size len zero at child e step = Unit {0}
LevelsIn size len (suc f) at child e step =
    LevelIn size at len (child + e) ((e + 34) / 35) child e step × LevelsIn size len f (at + 512 * ((e + 34) / 35)) (child + e) ((e + 34) / 35) (35 * step)
