-- Catalogs and extents overflow files for block mapping, by what they change in those of the other vectors.
-- Assumes nothing.
use Rattle.std.specs.Prelude.{List, ◌∷◌, ◌++◌, ℕ}
use Rattle.vectors.specs.Build.{put, be16, be32, header, node, key_bytes, one_pair, l1}
use Rattle.catalog_vectors.specs.Images.{cartridge}

-- "12 bytes, three pairs of first block and block count"
abbrev three_pairs : ℕ → ℕ → ℕ → ℕ → ℕ → ℕ → List ℕ
three_pairs block1 count1 block2 count2 block3 count3 = be16 block1 ++ be16 count1 ++ be16 block2 ++ be16 count2 ++ be16 block3 ++ be16 count3

-- The cartridge whose file has a resource fork too. Its record starts at 154 of node 1, its data at 168, so at 680 of the image, and its pairs at 680 + 86.
abbrev pub two_forks : List ℕ
two_forks = put 766 (three_pairs 50 3 60 0 65534 3) cartridge

-- L1 whose record, at 14 of node 1, is another file's: its key starts at 526 of the image, "length 07, fork .., file number (4), start block (2)"
abbrev pub other_file : List ℕ
other_file = put 528 (be32 15) l1

-- L1 whose record starts one block later
abbrev pub later_start : List ℕ
later_start = put 532 (be16 6) l1

-- Two records of file 16 in one leaf: six blocks from block 5 on in three pairs, and three from block 11 on. They start at 14 and 34.
abbrev pub two_records : List ℕ
two_records =
    header (be16 1 ++ be32 1 ++ be32 2 ++ be32 1 ++ be32 1) 2 0xC0
    ++ node (be32 0 ++ be32 0 ++ 0xFF ∷ 1 ∷ be16 2)
    (key_bytes 16 0x00 5 ++ three_pairs 100 2 200 3 300 1 ++ key_bytes 16 0x00 11 ++ one_pair 65534 3)
    (be16 54 ++ be16 34 ++ be16 14)
