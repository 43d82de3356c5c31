-- The data of an extents record.
-- Assumes nothing.
use Rattle.std.specs.Prelude.{List, ℕ, ◌+◌}
use Rattle.image.specs.Bytes.{be16_at}
use Rattle.extent_data.specs.declared.ExtentData.{ExtentData}

-- "12 bytes, three pairs of first block and block count"
abbrev pub extent_data_at : List ℕ → ℕ → ExtentData
extent_data_at img at =
    record {
      block1 = be16_at img at;
      count1 = be16_at img (at + 2);
      block2 = be16_at img (at + 4);
      count2 = be16_at img (at + 6);
      block3 = be16_at img (at + 8);
      count3 = be16_at img (at + 10);
    }
