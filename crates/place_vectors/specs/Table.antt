-- W-208's table of places, row by row: images with a fault, or a key in one, and node and offset by the table.
-- Assumes nothing.
use Rattle.std.specs.Prelude.{List, [], ◌∷◌, ◌++◌, ℕ, replicate, set}
use Rattle.extent_keys.specs.Key.{asked}
use Rattle.vectors.specs.Bench.{Case, of}
use Rattle.vectors.specs.Bench.Asks.{check, look, sees}
use Rattle.vectors.specs.Build.{put, key_bytes, map_node, linked_header, e1, e2, l1, two_leaves, two_leaves_under}

-- a header and two map nodes, whose numbers fall along the chain: 2, 1
abbrev e3 : List ℕ
e3 = linked_header 2 3 0xE0 ++ map_node 0 ++ map_node 1

abbrev pub places : List Case
places =
    -- sound, 1, 2, 8, 10: 0, 0
    of e2 (check 0 0 0) ∷
    of e3 (check 0 0 0) ∷
    of (replicate 1023 0) (check 1 0 0) ∷
    of (set e1 9 1) (check 2 0 0) ∷
    of (set l1 23 2) (check 8 0 0) ∷
    of (set l1 43 1) (check 10 0 0) ∷
    -- 3: the node, 0; here the one that is no map node, and the one with a link to the first of the chain
    of (set e3 520 1) (check 3 1 0) ∷
    of (set e3 515 2) (check 3 1 0) ∷
    -- 4: the header's root field, which is 0, or node 2 of 2; the parent's second child number, which is the first's
    of (set l1 19 0) (check 4 0 16) ∷
    of (set l1 19 2) (check 4 0 16) ∷
    of (set (two_leaves 2 1 1) 549 2) (check 4 1 34) ∷
    -- 5: the node, 0
    of (set l1 524 1) (check 5 1 0) ∷
    -- 6: the second of two equal keys; and where the first is not its pointer's, that one, though the second is at fault too
    of (put 1570 (key_bytes 0x10 0xFF 0) (two_leaves 2 1 1)) (check 6 3 34) ∷
    of (put 1570 (key_bytes 0x10 0xFF 0) (two_leaves_under (key_bytes 0x10 0x00 5) (key_bytes 0x10 0x00 6))) (check 6 3 14) ∷
    -- 7: the forward link, 0, of the last node of its level and of the node before
    of (set l1 515 1) (check 7 1 0) ∷
    of (set (two_leaves 2 1 1) 1027 0) (check 7 2 0) ∷
    -- 9: the last byte of the header's map record; the first and the last of a map node's; in the chain's order, whatever the nodes' numbers are
    of (set e1 503 0x01) (check 9 0 503) ∷
    of (set e2 526 0x80) (check 9 1 14) ∷
    of (set e2 1019 0x01) (check 9 1 507) ∷
    of (set e3 526 0x80) (check 9 1 14) ∷
    of (set (set e3 526 0x80) 1531 0x01) (check 9 2 507) ∷
    -- a refusal's place is that of the fault
    of (set l1 19 2) (look (asked 16 0x00 5) (4 ∷ 0 ∷ 16 ∷ 0 ∷ 0 ∷ 0 ∷ 0 ∷ 0 ∷ 0 ∷ 0 ∷ 0 ∷ 0 ∷ 0 ∷ [])) ∷
    -- 13: the record's start, in an image of any state; 14 and 11: 0, 0
    of (set l1 19 2) (sees (asked 16 0x00 5) 13 1 14) ∷
    of (two_leaves 1 2 2) (sees (asked 17 0x00 0) 13 3 34) ∷
    of l1 (sees (asked 16 0xFF 5) 14 0 0) ∷
    of l1 (sees (asked 16 0x01 5) 11 0 0) ∷
    []
