-- Images made of zeros and of bytes put at named places; and what holds of every case of a list.
-- Assumes nothing.
use Rattle.std.specs.Prelude.{List, [], ◌∷◌, ◌++◌, ℕ, suc, ◌-◌, ◌/◌, ◌%◌, length, set, replicate}

abbrev pub All : {C : Type 0} → (C → Type 0) → List C → Type 0
All P [] = Unit {0}
All P (c ∷ cs) = P c × All P cs

-- the bytes stored from byte i on
abbrev pub put : ℕ → List ℕ → List ℕ → List ℕ
put i [] img = img
put i (b ∷ bs) img = put (suc i) bs (set img i b)

-- big-endian numbers
abbrev pub be16 : ℕ → List ℕ
be16 n = n / 256 % 256 ∷ n % 256 ∷ []

abbrev pub be32 : ℕ → List ℕ
be32 n = n / 16777216 % 256 ∷ n / 65536 % 256 ∷ n / 256 % 256 ∷ n % 256 ∷ []

-- "a header as above", by node size and key length, with its depth, root, leaf records, first and last leaf; then its total, and its first map byte. Free is 0.
abbrev pub header_of : ℕ → ℕ → List ℕ → ℕ → ℕ → List ℕ
header_of size key_length tree total map_byte =
    put 8 (1 ∷ [])
    (put 10 (be16 3)
    (put 14 (tree ++ be16 size ++ be16 key_length ++ be32 total ++ be32 0)
    (put 248 (map_byte ∷ [])
    (put (size - 8) (be16 (size - 8) ++ be16 0xF8 ++ be16 0x78 ++ be16 0xE)
    (replicate size 0)))))

-- a node with its links, kind, level and count; its records; its last bytes
abbrev pub node_of : ℕ → List ℕ → List ℕ → List ℕ → List ℕ
node_of size start records ends = put 0 start (put 14 records (put (size - length ends) ends (replicate size 0)))

-- those of HFS
abbrev pub header : List ℕ → ℕ → ℕ → List ℕ
header = header_of 512 7

abbrev pub node : List ℕ → List ℕ → List ℕ → List ℕ
node = node_of 512

-- the fields of a tree of depth 0
abbrev pub no_tree : List ℕ
no_tree = be16 0 ++ be32 0 ++ be32 0 ++ be32 0 ++ be32 0

-- the fields of a tree that is one leaf, node 1, with one record
abbrev pub one_leaf : List ℕ
one_leaf = be16 1 ++ be32 1 ++ be32 1 ++ be32 1 ++ be32 1

-- "length 07, fork (00 data, FF resource), file number (4), start block (2)"
abbrev pub key_bytes : ℕ → ℕ → ℕ → List ℕ
key_bytes file fork start = 0x07 ∷ fork ∷ be32 file ++ be16 start

-- "three pairs of first block and block count", the second and the third zero
abbrev pub one_pair : ℕ → ℕ → List ℕ
one_pair first count = be16 first ++ be16 count ++ be32 0 ++ be32 0

-- "one node, a header as above with depth 0, total 1, free 0, first map byte 80, every byte not named zero"
abbrev pub e1 : List ℕ
e1 = header no_tree 1 0x80

-- "Each map node has back link 0, kind 02, level 0, one record, and ends in 01FC 000E", with its link
abbrev pub map_node : ℕ → List ℕ
map_node link = node (be32 link ++ be32 0 ++ 0x02 ∷ 0 ∷ be16 1) [] (be16 0x1FC ++ be16 0xE)

-- E1's header with a link, the total, and the first map byte
abbrev pub linked_header : ℕ → ℕ → ℕ → List ℕ
linked_header link total map_byte = put 0 (be32 link) (header no_tree total map_byte)

-- a header and a map node
abbrev pub e2 : List ℕ
e2 = linked_header 1 2 0xC0 ++ map_node 0

-- "links 0, FF, level 1, count 1, record 07 00 00000010 0005 0064 0003 and eight zero bytes, end 0022 000E"
abbrev only_leaf : List ℕ
only_leaf = node (be32 0 ++ be32 0 ++ 0xFF ∷ 1 ∷ be16 1) (key_bytes 0x10 0x00 5 ++ one_pair 0x64 3) (be16 0x22 ++ be16 0xE)

-- "header with depth, root, leaf records, first and last leaf 1, total 2, free 0, map byte C0. Node 1:" that leaf
abbrev pub l1 : List ℕ
l1 = header one_leaf 2 0xC0 ++ only_leaf

-- Two levels: the root, node 1, points at the leaves 2 and 3, which have one record and two. The root's two keys and the level bytes of the three
-- nodes are given.
abbrev two_levels : List ℕ → List ℕ → ℕ → ℕ → ℕ → List ℕ
two_levels key1 key2 level1 level2 level3 =
    header (be16 2 ++ be32 1 ++ be32 3 ++ be32 2 ++ be32 3) 4 0xF0
    ++ node (be32 0 ++ be32 0 ++ 0x00 ∷ level1 ∷ be16 2) (key1 ++ be32 2 ++ key2 ++ be32 3) (be16 0x26 ++ be16 0x1A ++ be16 0xE)
    ++ node (be32 3 ++ be32 0 ++ 0xFF ∷ level2 ∷ be16 1) (key_bytes 0x10 0x00 5 ++ one_pair 0x64 3) (be16 0x22 ++ be16 0xE)
    ++ node (be32 0 ++ be32 2 ++ 0xFF ∷ level3 ∷ be16 2) (key_bytes 0x10 0xFF 0 ++ one_pair 0x67 2 ++ key_bytes 0x11 0x00 0 ++ one_pair 0x69 1) (be16 0x36 ++ be16 0x22 ++ be16 0xE)

abbrev pub two_leaves : ℕ → ℕ → ℕ → List ℕ
two_leaves = two_levels (key_bytes 0x10 0x00 5) (key_bytes 0x10 0xFF 0)

abbrev pub two_leaves_under : List ℕ → List ℕ → List ℕ
two_leaves_under key1 key2 = two_levels key1 key2 2 1 1

-- Three levels of one node each: the root, node 1, points at node 2, and that at node 3, L1's leaf. The root's key is given.
abbrev pub three_levels_under : List ℕ → List ℕ
three_levels_under key =
    header (be16 3 ++ be32 1 ++ be32 1 ++ be32 3 ++ be32 3) 4 0xF0
    ++ node (be32 0 ++ be32 0 ++ 0x00 ∷ 3 ∷ be16 1) (key ++ be32 2) (be16 0x1A ++ be16 0xE)
    ++ node (be32 0 ++ be32 0 ++ 0x00 ∷ 2 ∷ be16 1) (key_bytes 0x10 0x00 5 ++ be32 3) (be16 0x1A ++ be16 0xE)
    ++ only_leaf
