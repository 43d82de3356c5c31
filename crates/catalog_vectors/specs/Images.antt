-- Small catalogs: one leaf, or a root over two.
-- Assumes nothing.
use Rattle.std.specs.Prelude.{List, [], ◌∷◌, ◌++◌, ℕ, zero, suc, ◌+◌, ◌-◌, length, replicate, take}
use Rattle.vectors.specs.Build.{be16, be32, header_of, no_tree}
use Rattle.catalog_vectors.specs.Records.{bytes, leaf_key, leaf_record, index_record, directory, file, directory_thread, file_thread, numbered}

-- "Header key length 37": the fields of the tree, the total, the first map byte
abbrev header : List ℕ → ℕ → ℕ → List ℕ
header = header_of 512 37

abbrev joined : List (List ℕ) → List ℕ
joined [] = []
joined (r ∷ rs) = r ++ joined rs

-- the offset words of records that lie side by side, the first of which starts here; before them the words of the records before
abbrev offset_words : ℕ → List (List ℕ) → List ℕ → List ℕ
offset_words start [] words = be16 start ++ words
offset_words start (r ∷ rs) words = offset_words (start + length r) rs (be16 start ++ words)

-- bytes from the start of a node and bytes up to its end, which lie over the first ones where both do not fit
abbrev filled : List ℕ → List ℕ → List ℕ
filled start ends = take (512 - length ends) (start ++ replicate 512 0) ++ ends

-- a node with its links, kind and level, and these records; "the offset words say where each starts and where the free space does"
abbrev node_with : List ℕ → List (List ℕ) → List ℕ
node_with start records = filled (start ++ be16 (length records) ++ be16 0 ++ joined records) (offset_words 14 records [])

abbrev leaf : ℕ → ℕ → List (List ℕ) → List ℕ
leaf forward back = node_with (be32 forward ++ be32 back ++ 0xFF ∷ 1 ∷ [])

-- a header and one leaf, node 1, with these records
abbrev pub leaf_with : List (List ℕ) → List ℕ
leaf_with records = header (be16 1 ++ be32 1 ++ be32 (length records) ++ be32 1 ++ be32 1) 2 0xC0 ++ leaf 0 0 records

-- a header alone
abbrev pub empty_catalog : List ℕ
empty_catalog = header no_tree 1 0x80

-- "a small catalog in the proved list (root directory thread, root directory, one file)": the file has 4,000 bytes in eight blocks of 512, five of them
-- in its first extents. The records start at 14, 100 and 154, and the free space at 270.
abbrev pub cartridge : List ℕ
cartridge =
    leaf_with
    (leaf_record 1 (bytes "Cartridge") (directory 2 1) ∷
    leaf_record 2 [] (directory_thread 1 (bytes "Cartridge")) ∷
    leaf_record 2 (bytes "Heights") (file 16 20 4000 4096 (be16 20 ++ be16 2 ++ be16 30 ++ be16 2 ++ be16 40 ++ be16 1)) ∷
    [])

-- the four kinds, each field with a number of its own: at 14, 92, 202 and 256
abbrev pub four_kinds : List ℕ
four_kinds =
    leaf_with
    (leaf_record 16 [] (numbered 1 70) ∷
    leaf_record 17 [] (numbered 2 102) ∷
    leaf_record 18 [] (numbered 3 46) ∷
    leaf_record 19 [] (numbered 4 46) ∷
    [])

-- two directories under these parents and names; the second starts at 98 where the first has a name of 6 or 7 bytes
abbrev pub two_keys : ℕ → List ℕ → ℕ → List ℕ → List ℕ
two_keys parent1 name1 parent2 name2 = leaf_with (leaf_record parent1 name1 (directory 16 0) ∷ leaf_record parent2 name2 (directory 17 0) ∷ [])

-- so many threads from file i on, whose names have n bytes
abbrev threads : ℕ → ℕ → ℕ → List (List ℕ)
threads n i zero = []
threads n i (suc count) = leaf_record i (replicate n 0x6E) (file_thread 2 []) ∷ threads n (suc i) count

-- so many records of 54 bytes, the fewest that a record can have
abbrev pub leaf_of : ℕ → List ℕ
leaf_of count = leaf_with (threads 0 16 count)

-- one thread whose name has so many bytes
abbrev pub named_with : ℕ → List ℕ
named_with n = leaf_with (threads n 16 1)

-- Eight threads, the last with a name of so many bytes, the others of 7: with 7 the free space starts at 494, where the nine offset words do.
abbrev pub full_leaf : ℕ → List ℕ
full_leaf n = leaf_with (threads 7 16 7 ++ threads n 23 1)

-- one thread whose data start right after the key, on an odd offset
abbrev pub unpadded : List ℕ
unpadded = leaf_with ((leaf_key 2 [] ++ directory_thread 1 []) ∷ [])

-- Two levels: the root, node 1, points at the leaves 2 and 3 with two directories each. The root's records are given.
abbrev pub under_root : List (List ℕ) → List ℕ
under_root pointers =
    header (be16 2 ++ be32 1 ++ be32 4 ++ be32 2 ++ be32 3) 4 0xF0
    ++ node_with (be32 0 ++ be32 0 ++ 0x00 ∷ 2 ∷ []) pointers
    ++ leaf 3 0 (leaf_record 2 (bytes "apples") (directory 16 0) ∷ leaf_record 2 (bytes "Bees") (directory 17 0) ∷ [])
    ++ leaf 0 2 (leaf_record 2 (bytes "cows") (directory 18 0) ∷ leaf_record 2 (bytes "Dogs") (directory 19 0) ∷ [])

-- the second pointer key's name is given
abbrev pub two_leaves_under : List ℕ → List ℕ
two_leaves_under name = under_root (index_record 2 (bytes "apples") 2 ∷ index_record 2 name 3 ∷ [])

-- in which it differs from its child's first key in case alone
abbrev pub twin_pointer : List ℕ
twin_pointer = two_leaves_under (bytes "COWS")

-- so many index records under the parents from i on, which all lead to leaf 2
abbrev pointers : ℕ → ℕ → List (List ℕ)
pointers i zero = []
pointers i (suc count) = index_record i (bytes "apples") 2 ∷ pointers (suc i) count

abbrev pub root_of : ℕ → List ℕ
root_of count = under_root (pointers 2 count)
