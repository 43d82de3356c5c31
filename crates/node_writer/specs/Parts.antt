-- The parts of a laid node, as they are written.
-- Assumes nothing.
use Rattle.std.specs.Prelude.{List, [], ◌++◌, ℕ, zero, suc, ◌+◌, ◌-◌, ◌*◌, ◌/◌, ◌≤◌, ◌<◌, length, take, drop, replicate}
use Rattle.put.specs.Put.{be32}
use Rattle.laid.specs.Laid.{described, offsets}

-- what stands in a node after c records of a size
unfoldable pub framed : (size c : ℕ) → List ℕ
framed size c = replicate (498 - (c * size + 2 * suc c)) 0 ++ offsets size c

-- a leaf with these records
unfoldable pub leaf_node : (forward back : ℕ) → List ℕ → List ℕ
leaf_node f b recs = described f b 255 1 (length recs / 20) ++ (recs ++ framed 20 (length recs / 20))

-- c keys of the row, each with the number of its child
unfoldable pub indexed : (c from step child : ℕ) → List ℕ → List ℕ
indexed zero from step child row = []
indexed (suc c) from step child row = (take 8 (drop from row) ++ be32 child) ++ indexed c (from + step) step (child + 1) row

-- the keys lie in a row of len bytes, and no sum on the way is too large
pub record Inside (c from step len : ℕ) : Type 0 where
  pub reach : (i : ℕ) → i < c → from + i * step + 8 ≤ len
  pub end : from + c * step < 18446744073709551616

unfoldable pub index_node : (forward back level c from step child : ℕ) → List ℕ → List ℕ
index_node f b level c from step child row = described f b 0 level c ++ (indexed c from step child row ++ framed 12 c)
