-- W-207: "W-206 holds for each image and its working bytes apart".
-- Assumes nothing.
use Rattle.std.specs.Prelude.{◌≡◌, ◌≢◌, List, ℕ, length}
use Rattle.btree.specs.Decide.{cond}
use Rattle.catalog_keys.specs.Key.{Key}
use Rattle.catalog.specs.Reader as catalog
use Rattle.extents.specs.Reader as extents
use Rattle.blocks.specs.Blocks.{dec_asked}

-- the number that is said of the catalog, by which its working bytes are left: 11, or its check's
unfoldable pub catalog_number : List ℕ → ℕ → Key → ℕ → ℕ
catalog_number cat lent k fork = cond (dec_asked k fork) (catalog.checked cat lent).number 11

-- what is left in the bytes lent for the extents image, where that number is said of the catalog
pub record ExtentsLeft (ext : List ℕ) (number : ℕ) (entry exit : List ℕ) : Type 0 where
  -- "a fault in the first leaves the second's untouched", and so does 11
  pub untouched : number ≢ 0 → exit ≡ entry
  -- else its own check is made
  pub left : number ≡ 0 → extents.Leaves ext (extents.checked ext (length entry)).number entry exit
