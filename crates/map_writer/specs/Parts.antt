-- The parts of a laid header, as they are written.
-- Assumes nothing.
use Rattle.std.specs.Prelude.{◌≡◌, List, ◌++◌, ℕ}
use Rattle.std.proofs.Math.Decide.{dec_lt}
use Rattle.put.specs.Put.{be16, be32}
use Rattle.btree.specs.Decide.{cond}
use Rattle.shape.specs.Shape.{start}
use Rattle.laid.specs.Laid.{described, root_for, first_for, last_for}

-- the first 24 bytes of a header, and the 20 after them
unfoldable pub front : (m depth root records : ℕ) → List ℕ
front m depth root records = described (cond (dec_lt 0 m) 1 0) 0 1 0 3 ++ (be16 depth ++ (be32 root ++ be32 records))

unfoldable pub numbers : (first last nodes free : ℕ) → List ℕ
numbers first last nodes free = be32 first ++ (be32 last ++ (be16 512 ++ (be16 7 ++ (be32 nodes ++ be32 free))))

abbrev pub header_words : List ℕ
header_words = be16 504 ++ (be16 248 ++ (be16 120 ++ be16 14))

-- the header's numbers are those of the tree
pub record HeaderOf (m r D root first last used : ℕ) : Type 0 where
  pub is_root : root ≡ root_for m r D
  pub is_first : first ≡ first_for m r D
  pub is_last : last ≡ last_for m r D
  pub is_used : used ≡ start m r D
