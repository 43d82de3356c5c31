-- When a target has room for a fresh tree and its parts.
-- Assumes nothing.
use Rattle.std.specs.Prelude.{◌≡◌, ℕ, ◌+◌, ◌-◌, ◌*◌, ◌/◌, ◌%◌, ◌≤◌, ◌<◌}
use Rattle.shape.specs.Shape.{nodes_at, start, levels}
use Rattle.laid.specs.Laid.{maps_for, root_for}
use Rattle.level_writer.specs.Parts.{LeavesOf, LevelsIn}

-- room in size bytes for the header and the map nodes, with the header's numbers; the largest target needs 17 map nodes
pub record FrontIn (size maps depth root records n nodes used : ℕ) : Type 0 where
  pub room : 512 + 512 * maps ≤ size
  pub few : maps ≤ 20
  pub low : depth ≤ 8
  pub leaves : n ≡ nodes_at records 0
  pub some : 0 < depth → 0 < n
  pub narrow : n ≤ 65536
  pub is_root : root ≡ root_for maps records depth
  pub is_used : used ≡ start maps records depth
  pub fits : used ≤ nodes

-- room from `at` on for the leaves of a row of len bytes, and for the levels above them
pub record TreeIn (size at len maps depth n : ℕ) : Type 0 where
  pub low : depth ≤ 8
  pub leaves : LeavesOf size at len (1 + maps) n
  pub levels : LevelsIn size len (depth - 1) (at + 512 * n) (1 + maps) n 440

-- room for all of the image of a row of len bytes, with its numbers
pub record TargetIn (len size maps depth root used : ℕ) : Type 0 where
  pub whole : len % 20 ≡ 0
  pub nodes : size % 512 ≡ 0
  pub few : size ≤ 33554432
  pub is_maps : maps ≡ maps_for (size / 512)
  pub is_depth : depth ≡ levels (len / 20)
  pub is_root : root ≡ root_for maps (len / 20) depth
  pub is_used : used ≡ start maps (len / 20) depth
  pub fits : used ≤ size / 512
