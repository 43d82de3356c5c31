-- The turns of the loop over the index levels: what is left is one level and what is left after it.
-- Assumes nothing.
use mathlib.Core.Path.{◌≡◌, refl, ◌∙◌}
use mathlib.Core.List.{List, [], ◌++◌}
use Prim.Native.Nat.{ℕ, zero, suc, ◌+◌, ◌*◌, ◌/◌}
use lib.ListN.{length, length-append}
use Rattle.btree.specs.Lists.{span}
use Rattle.level_writer.specs.Parts.{index_at, LevelIn, index_levels, levels_size, LevelsIn}
use Rattle.level_writer.proofs.IndexNodes.{level-long}

-- f levels are one, and g above it
module _ (f g : ℕ) (e : f ≡ suc g) where
  pub levels-on : (row : List ℕ) (level child n step : ℕ)
      → span 0 ((n + 34) / 35) (index_at level (child + n) ((n + 34) / 35) child n step row) ++ index_levels row g (level + 1) (child + n) ((n + 34) / 35) (35 * step)
      ≡ index_levels row f level child n step
  unfolding index_levels
  levels-on row level child n step = rw e

  pub size-on : (n : ℕ) → levels_size f n ≡ 512 * ((n + 34) / 35) + levels_size g ((n + 34) / 35)
  unfolding levels_size
  size-on n = rw e

  module _ (size len at child n step : ℕ) (h : LevelsIn size len f at child n step) where
    pub this-level : LevelIn size at len (child + n) ((n + 34) / 35) child n step
    unfolding LevelsIn
    this-level = let k = rw e at h in k.0

    pub next-levels : LevelsIn size len g (at + 512 * ((n + 34) / 35)) (child + n) ((n + 34) / 35) (35 * step)
    unfolding LevelsIn
    next-levels = let k = rw e at h in k.1

pub levels-end : (row : List ℕ) (f level child n step : ℕ) → f ≡ 0 → index_levels row f level child n step ≡ []
unfolding index_levels
levels-end row f level child n step e = rw e

pub size-end : (f n : ℕ) → f ≡ 0 → levels_size f n ≡ 0
unfolding levels_size
size-end f n e = rw e

pub levels-long : (row : List ℕ) (size f at level child e step : ℕ) → LevelsIn size (length row) f at child e step → length (index_levels row f level child e step) ≡ levels_size f e
unfolding LevelsIn index_levels levels_size
levels-long row size zero at level child e step h = refl
levels-long row size (suc f) at level child e step h =
    let n = (e + 34) / 35 in
    length-append (span 0 n (index_at level (child + e) n child e step row)) (index_levels row f (level + 1) (child + e) n (35 * step))
    ∙ rw (level-long level row h.0, levels-long row size f (at + 512 * n) (level + 1) (child + e) n (35 * step) h.1)
