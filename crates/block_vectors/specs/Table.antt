-- W-207: two images and the bytes lent for each, a block of a file or a key asked for, and the answer by the request and the images' bytes.
-- Assumes nothing.
use Rattle.std.specs.Prelude.{◌≡◌, List, [], ◌∷◌, ◌++◌, ℕ, replicate, set}
use Rattle.btree.specs.Numbers.{reply_numbers}
use Rattle.extent_keys.specs.declared.key.Key.{Key}
use Rattle.extent_keys.specs.Key as extent_key
use Rattle.extent_data.specs.declared.ExtentData.{ExtentData}
use Rattle.catalog_keys.specs.Key as catalog_key
use Rattle.extents.specs.declared.floors.Floor.{Floor}
use Rattle.extents.specs.declared.floors.Floor.TheVariants as floor
use Rattle.extents.specs.Floor.{floor_reply, floored}
use Rattle.coverings.specs.Answers.{block_numbers}
use Rattle.blocks.specs.Blocks.{block_of}
use Rattle.vectors.specs.Build.{e1, l1, two_leaves}
use Rattle.catalog_vectors.specs.Records.{bytes}
use Rattle.catalog_vectors.specs.Images.{empty_catalog, cartridge, two_keys, leaf_of}
use Rattle.block_vectors.specs.Images.{two_forks, other_file, later_start, two_records}

-- a catalog and an extents overflow file, and how many working bytes are lent for each
pub record Volume : Type 0 where
  pub catalog : List ℕ
  pub extents : List ℕ
  pub catalog_lent : ℕ
  pub extents_lent : ℕ

-- a question about them, and what the request says to it
pub data Asks : Type 0 where
  -- parent, name, fork byte and file block: number, image, node, offset; volume block, where the covering record's 12 bytes start in that image, and 12
  block : ℕ → List ℕ → ℕ → ℕ → List ℕ → Asks
  -- the extents record with the highest key not above one: number, node, offset; file, fork byte, start block and the three pairs
  highest : Key → List ℕ → Asks

pub record Case : Type 0 where
  pub volume : Volume
  pub asks : Asks

abbrev pair_numbers : ExtentData → List ℕ
pair_numbers d = d.block1 ∷ d.count1 ∷ d.block2 ∷ d.count2 ∷ d.block3 ∷ d.count3 ∷ []

abbrev record_numbers : Floor → List ℕ
record_numbers (floor.At p e) = e.file ∷ e.fork ∷ e.start ∷ pair_numbers e.extents
record_numbers floor.Nowhere = []
record_numbers (floor.Refused number place) = []

abbrev floor_numbers : Floor → List ℕ
floor_numbers f = reply_numbers (floor_reply f) ++ record_numbers f

abbrev Says : Volume → Asks → Type 0
Says v (block parent name fork n numbers) =
    block_numbers (block_of v.catalog v.extents v.catalog_lent v.extents_lent (catalog_key.asked parent name) fork n) ≡ numbers
Says v (highest k numbers) = floor_numbers (floored v.extents k v.extents_lent) ≡ numbers

abbrev pub Right : Case → Type 0
Right c = Says c.volume c.asks

abbrev lending : ℕ → ℕ → List ℕ → List ℕ → Asks → Case
lending catalog_lent extents_lent cat ext q =
    record { volume = record { catalog = cat; extents = ext; catalog_lent = catalog_lent; extents_lent = extents_lent }; asks = q }

-- with the byte that so small an image needs
abbrev of : List ℕ → List ℕ → Asks → Case
of = lending 1 1

abbrev pub heights : List ℕ
heights = bytes "Heights"

-- 0, by the file record at 154 of the catalog's node 1; its data are at 168 of the node, 680 of the image, and the data fork's pairs 74 further
abbrev by_data : ℕ → List ℕ
by_data v = 0 ∷ 0 ∷ 1 ∷ 154 ∷ v ∷ 754 ∷ 12 ∷ []

-- the resource fork's pairs are 86 further
abbrev by_resource : ℕ → List ℕ
by_resource v = 0 ∷ 0 ∷ 1 ∷ 154 ∷ v ∷ 766 ∷ 12 ∷ []

-- 0, by the extents record at 14 of node 1, byte 526 of the image; its pairs stand after the 8 bytes of its key
abbrev by_record : ℕ → List ℕ
by_record v = 0 ∷ 1 ∷ 1 ∷ 14 ∷ v ∷ 534 ∷ 12 ∷ []

-- "Any answer but 0 has the empty part at the catalog's start", whichever image it concerns; W-203: "numbers from 15 up have place 0"
abbrev of_catalog : ℕ → ℕ → ℕ → List ℕ
of_catalog number node offset = number ∷ 0 ∷ node ∷ offset ∷ 0 ∷ 0 ∷ 0 ∷ []

abbrev of_extents : ℕ → ℕ → ℕ → List ℕ
of_extents number node offset = number ∷ 1 ∷ node ∷ offset ∷ 0 ∷ 0 ∷ 0 ∷ []

-- the file record's own pairs: 20 and 2, 30 and 2, 40 and 1 in the data fork; 50 and 3, 60 and 0, 65,534 and 3 in the resource fork
abbrev pub cases : List Case
cases =
    -- the first pair's first block
    of two_forks e1 (block 2 heights 0x00 0 (by_data 20)) ∷
    -- "plus the blocks of that pair before it": its last, 20 + 1
    of two_forks e1 (block 2 heights 0x00 1 (by_data 21)) ∷
    -- "the three pairs counted off in order": 2 blocks on, the second pair's first
    of two_forks e1 (block 2 heights 0x00 2 (by_data 30)) ∷
    -- its last, 30 + 1
    of two_forks e1 (block 2 heights 0x00 3 (by_data 31)) ∷
    -- 2 + 2 blocks on, the third pair's only one, and the last below the sum of 5
    of two_forks e1 (block 2 heights 0x00 4 (by_data 40)) ∷
    -- "that fork's": block 2 of the resource fork is the last of its first pair, 50 + 2
    of two_forks e1 (block 2 heights 0xFF 2 (by_resource 52)) ∷
    -- the second pair has no block, so block 3 is the third pair's first
    of two_forks e1 (block 2 heights 0xFF 3 (by_resource 65534)) ∷
    -- 65,534 + 1 is not above 65,535
    of two_forks e1 (block 2 heights 0xFF 4 (by_resource 65535)) ∷
    -- "A volume block above 65,535 is 18", of "the covering one": 65,534 + 2, in the catalog
    of two_forks e1 (block 2 heights 0xFF 5 (of_catalog 18 0 0)) ∷
    -- "Otherwise the extents record ..": block 5 is not below 2 + 2 + 1, and is the first of the record's 100 and 2, 200 and 3, 300 and 1
    of two_forks two_records (block 2 heights 0x00 5 (by_record 100)) ∷
    -- "added up from its start block": block 7 is the third from block 5 on, so the second pair's first
    of two_forks two_records (block 2 heights 0x00 7 (by_record 200)) ∷
    -- "the highest key": the record of block 11, at 34, whose pairs start at 512 + 34 + 8; 65,534 + 1
    of two_forks two_records (block 2 heights 0x00 12 (0 ∷ 1 ∷ 1 ∷ 34 ∷ 65535 ∷ 554 ∷ 12 ∷ [])) ∷
    -- 65,534 + 2, and the extents image is the covering one
    of two_forks two_records (block 2 heights 0x00 13 (of_extents 18 0 0)) ∷
    -- under a root: leaf 3 starts with (16, FF, 0), so (16, 00, 5) at 14 of leaf 2, its pair 100 and 3 at 2 * 512 + 14 + 8; its last, 100 + 2
    of two_forks (two_leaves 2 1 1) (block 2 heights 0x00 7 (0 ∷ 1 ∷ 2 ∷ 14 ∷ 102 ∷ 1046 ∷ 12 ∷ [])) ∷
    -- "go past the block": 5 + 3 is 8, and not past it
    of two_forks l1 (block 2 heights 0x00 8 (of_extents 17 0 0)) ∷
    -- "if it has that .. fork": block 6 is not below 3 + 0 + 3, and the highest key not above (16, FF, 6) is (16, 00, 5), which goes past it
    of two_forks l1 (block 2 heights 0xFF 6 (of_extents 17 0 0)) ∷
    -- "if it has that file": the highest key not above (16, 00, 5) is (15, 00, 5), which goes past block 5
    of two_forks other_file (block 2 heights 0x00 5 (of_extents 17 0 0)) ∷
    -- the only key, (16, 00, 6), is above (16, 00, 5)
    of two_forks later_start (block 2 heights 0x00 5 (of_extents 17 0 0)) ∷
    -- a tree of depth 0 has no record
    of two_forks e1 (block 2 heights 0x00 5 (of_extents 17 0 0)) ∷
    -- "a record that is no file 24": a directory
    of two_forks e1 (block 1 (bytes "Cartridge") 0x00 0 (of_catalog 24 0 0)) ∷
    -- a thread
    of (leaf_of 1) e1 (block 16 [] 0xFF 0 (of_catalog 24 0 0)) ∷
    -- "an absent key is 12", with the lookup's place, "last node read"
    of (leaf_of 1) e1 (block 16 heights 0x00 0 (of_catalog 12 1 0)) ∷
    -- "0 at depth 0"
    of empty_catalog e1 (block 2 heights 0x00 0 (of_catalog 12 0 0)) ∷
    -- 11 for a fork byte that is neither 00 nor FF
    of two_forks l1 (block 2 heights 0x01 0 (of_catalog 11 0 0)) ∷
    -- 11 for a name of 32 bytes
    of two_forks l1 (block 2 (replicate 32 0x6E) 0x00 0 (of_catalog 11 0 0)) ∷
    -- "After 11 the catalog is checked": before the 1 of no image and the 16 of no bytes
    lending 0 0 [] [] (block 2 heights 0x01 0 (of_catalog 11 0 0)) ∷
    -- "the catalog is checked, then the extents image": the same key twice, again at 98, is 6, whatever the other image has
    of (two_keys 2 heights 2 (bytes "hEIGHTS")) (set l1 519 1) (block 2 heights 0x00 0 (of_catalog 6 1 98)) ∷
    -- a back link of 1, at 4 of node 1, is 7 of the extents image, though the catalog covers block 0
    of two_forks (set l1 519 1) (block 2 heights 0x00 0 (of_extents 7 1 4)) ∷
    -- "12, 24, 17 and 18 come after both": 12 does, where a node of zeros is no header, 2
    of empty_catalog (replicate 512 0) (block 2 heights 0x00 0 (of_extents 2 0 0)) ∷
    -- 24 does
    of (leaf_of 1) (replicate 512 0) (block 16 [] 0x00 0 (of_extents 2 0 0)) ∷
    -- 17 does
    of two_forks (replicate 512 0) (block 2 heights 0x00 5 (of_extents 2 0 0)) ∷
    -- 18 does
    of two_forks (replicate 512 0) (block 2 heights 0xFF 5 (of_extents 2 0 0)) ∷
    -- each image by its own rules: a catalog's header has key length 37, and not 7, else 2
    of l1 cartridge (block 2 heights 0x00 0 (of_catalog 2 0 0)) ∷
    -- the extents image's has 7, and not 37
    of two_forks cartridge (block 2 heights 0x00 0 (of_extents 2 0 0)) ∷
    -- "each with working bytes of its own": two nodes need one byte, and the catalog has none
    lending 0 1 two_forks l1 (block 2 heights 0x00 0 (of_catalog 16 0 0)) ∷
    -- the extents image has none, though the catalog covers block 0
    lending 1 0 two_forks l1 (block 2 heights 0x00 0 (of_extents 16 0 0)) ∷
    -- the same where the record would be looked for there
    lending 1 0 two_forks l1 (block 2 heights 0x00 5 (of_extents 16 0 0)) ∷
    -- 16 is "tested after .. 1": no catalog
    lending 0 0 [] l1 (block 2 heights 0x00 0 (of_catalog 1 0 0)) ∷
    -- no extents image
    lending 1 0 two_forks [] (block 2 heights 0x00 0 (of_extents 1 0 0)) ∷
    -- "the extents record with the highest key not above" one, by itself: L1's only record, below another file's key
    of [] l1 (highest (extent_key.asked 17 0x00 0) (0 ∷ 1 ∷ 14 ∷ 16 ∷ 0x00 ∷ 5 ∷ 100 ∷ 3 ∷ 0 ∷ 0 ∷ 0 ∷ 0 ∷ [])) ∷
    -- one block below L1's there is none
    of [] l1 (highest (extent_key.asked 16 0x00 4) (12 ∷ 0 ∷ 0 ∷ [])) ∷
    -- nor at depth 0
    of [] e1 (highest (extent_key.asked 16 0x00 5) (12 ∷ 0 ∷ 0 ∷ [])) ∷
    -- as a lookup is refused: the fork byte first
    lending 0 0 [] [] (highest (extent_key.asked 16 0x01 5) (11 ∷ 0 ∷ 0 ∷ [])) ∷
    -- too few bytes
    lending 0 0 [] l1 (highest (extent_key.asked 16 0x00 5) (16 ∷ 0 ∷ 0 ∷ [])) ∷
    -- the check's own fault
    of [] (set l1 519 1) (highest (extent_key.asked 16 0x00 5) (7 ∷ 1 ∷ 4 ∷ [])) ∷
    []
