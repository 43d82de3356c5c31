-- W-209: rows of leaf records and targets, the answer by the request, and the target afterwards.
-- Assumes nothing.
use Rattle.std.specs.Prelude.{◌≡◌, List, [], ◌∷◌, ◌++◌, ℕ, ◌+◌, replicate, set}
use Rattle.btree.specs.Lists.{span, gather}
use Rattle.btree.specs.Places.{image_start}
use Rattle.btree.specs.Walk.{fails}
use Rattle.vectors.specs.Build.{put, be16, be32, header, node, key_bytes, one_pair, e1, l1}
use Rattle.writing.specs.Written.{write_answer, written}

pub record Case : Type 0 where
  pub row : List ℕ
  pub before : List ℕ
  pub number : ℕ
  pub after : List ℕ

abbrev pub Right : Case → Type 0
Right c = (write_answer c.row c.before ≡ fails c.number image_start) × (written c.row c.before ≡ c.after)

-- a target of so many bytes, none of them zero, and what it is afterwards
abbrev lent : ℕ → List ℕ
lent size = replicate size 0x99

abbrev lays : List ℕ → ℕ → List ℕ → Case
lays row size after = record { row = row; before = lent size; number = 0; after = after }

abbrev refuses : List ℕ → ℕ → ℕ → Case
refuses row size number = record { row = row; before = lent size; number = number; after = lent size }

-- L1's record: "07 00 00000010 0005 0064 0003 and eight zero bytes"
abbrev only : List ℕ
only = key_bytes 0x10 0x00 5 ++ one_pair 0x64 3

-- records of files 16 and so on
abbrev key : ℕ → List ℕ
key i = key_bytes (0x10 + i) 0x00 0

abbrev numbered : ℕ → List ℕ
numbered i = key i ++ one_pair (0x64 + i) 1

abbrev numbered_to : ℕ → List ℕ
numbered_to n = span 0 n numbered

-- "leaves of 22 records, the last with the rest, then index levels of 35 likewise, root last; all other bytes zero": 23 records in five nodes
abbrev two_levels : List ℕ
two_levels =
    put 40 (be32 1) (header (be16 2 ++ be32 3 ++ be32 23 ++ be32 1 ++ be32 2) 5 0xF0)
    ++ node (be32 2 ++ be32 0 ++ 0xFF ∷ 1 ∷ be16 22) (numbered_to 22)
    (gather be16 (0x1C6 ∷ 0x1B2 ∷ 0x19E ∷ 0x18A ∷ 0x176 ∷ 0x162 ∷ 0x14E ∷ 0x13A ∷ 0x126 ∷ 0x112 ∷ 0xFE ∷ 0xEA ∷ 0xD6 ∷ 0xC2 ∷ 0xAE ∷ 0x9A ∷ 0x86 ∷ 0x72 ∷ 0x5E ∷ 0x4A ∷ 0x36 ∷ 0x22 ∷ 0xE ∷ []))
    ++ node (be32 0 ++ be32 1 ++ 0xFF ∷ 1 ∷ be16 1) (numbered 22) (be16 0x22 ++ be16 0xE)
    ++ node (be32 0 ++ be32 0 ++ 0x00 ∷ 2 ∷ be16 2) (key 0 ++ be32 1 ++ key 22 ++ be32 2) (be16 0x26 ++ be16 0x1A ++ be16 0xE)
    ++ replicate 512 0

abbrev pub writes : List Case
writes =
    -- the paper's E1 and L1; a node more than L1 has, which is free: total 3, free 1
    lays [] 512 e1 ∷
    lays only 1024 l1 ∷
    lays only 1536 (put 36 (be32 3) (put 40 (be32 1) l1) ++ replicate 512 0) ∷
    -- two levels
    lays (numbered_to 23) 2560 two_levels ∷
    -- "target length by 1"
    refuses [] 0 1 ∷
    refuses only 1023 1 ∷
    -- "a row not of whole records, or with a wrong length or fork byte or keys out of order, 19": a byte too few; length 06; fork 01; the same key; a lower one
    refuses (numbered_to 2 ++ 0x07 ∷ []) 1024 19 ∷
    refuses (set only 0 0x06) 1024 19 ∷
    refuses (numbered 0 ++ set (numbered 1) 1 0x01) 1024 19 ∷
    refuses (numbered 0 ++ numbered 0) 1024 19 ∷
    refuses (numbered 1 ++ numbered 0) 1024 19 ∷
    -- "more nodes wanted than the target has, 20"
    refuses only 512 20 ∷
    refuses (numbered_to 23) 1536 20 ∷
    -- 1 before 19 and 20, 19 before 20
    refuses (set only 0 0x06) 511 1 ∷
    refuses (numbered_to 23) 511 1 ∷
    refuses (set only 0 0x06) 512 19 ∷
    []
