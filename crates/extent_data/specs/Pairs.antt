-- The three pairs of first block and block count of an extents record, counted off.
-- Assumes nothing.
use Rattle.std.specs.Prelude.{◌≡◌, ◌⊎◌, ℕ, ◌+◌, ◌-◌, ◌≤◌, ◌<◌}
use Rattle.std.proofs.Math.Decide.{dec_lt}
use Rattle.btree.specs.Decide.{cond}
use Rattle.extent_data.specs.declared.ExtentData.{ExtentData}

-- a pair of so many blocks, after those of the pairs before it, has block n, and v is "the first block of its pair plus the blocks of that pair before it"
pub record InPair (before first count n v : ℕ) : Type 0 where
  pub from : before ≤ n
  pub past : n < before + count
  pub is_block : v + before ≡ first + n

module _ (d : ExtentData) where
  -- "the sum of that fork's three first counts", "its three counts, added up"
  abbrev pub block_count : ℕ
  block_count = d.count1 + d.count2 + d.count3

  -- of the block with this number: "the three pairs counted off in order, the first block of its pair plus the blocks of that pair before it"
  unfoldable pub counted_off : ℕ → ℕ
  counted_off n =
      cond (dec_lt n d.count1) (d.block1 + n)
      (cond (dec_lt (n - d.count1) d.count2) (d.block2 + (n - d.count1))
      (d.block3 + (n - d.count1 - d.count2)))

  -- the same in words: one of the three pairs gives v for block n
  abbrev pub Gives : ℕ → ℕ → Type 0
  Gives n v =
      InPair 0 d.block1 d.count1 n v
      ⊎ (InPair d.count1 d.block2 d.count2 n v
      ⊎ InPair (d.count1 + d.count2) d.block3 d.count3 n v)
