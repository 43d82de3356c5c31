-- W-204: small catalogs, a question about each, and the answer by the request and the papers.
-- Assumes nothing.
use Rattle.std.specs.Prelude.{◌≡◌, List, [], ◌∷◌, ◌++◌, ℕ, ℤ, pos, negsuc, replicate}
use Rattle.btree.specs.Places.{byte_of}
use Rattle.btree.specs.Walk.{fails}
use Rattle.btree.specs.Numbers.{reply_numbers, lookup_numbers, salvage_reply}
use Rattle.catalog_keys.specs.Key.{Key, asked, compared}
use Rattle.catalog_entries.specs.declared.Fork.{Fork}
use Rattle.catalog_entries.specs.declared.Thread.{Thread}
use Rattle.catalog_entries.specs.declared.Entry.{Entry}
use Rattle.catalog_entries.specs.declared.Entry.TheVariants as kind
use Rattle.reader.specs.Reader.{Part}
use Rattle.extents.specs.Reader as extents
use Rattle.catalog.specs.declared.answers.Answer.{Answer}
use Rattle.catalog.specs.declared.answers.Answer.TheVariants as answer
use Rattle.catalog.specs.declared.answers.Lookup.{Lookup}
use Rattle.catalog.specs.declared.answers.Salvage.{Salvage}
use Rattle.catalog.specs.declared.answers.Salvage.TheVariants as salvage
use Rattle.catalog.specs.Answers.{plain, plain_seen}
use Rattle.catalog.specs.Reader.{needed, checked, looked_up, found_part, salvaged, seen_part}
use Rattle.vectors.specs.Build.{put, be16, l1}
use Rattle.catalog_vectors.specs.Records.{bytes}
use Rattle.catalog_vectors.specs.Images.{empty_catalog, cartridge, four_kinds, two_keys, leaf_of, named_with, full_leaf, unpadded, two_leaves_under, twin_pointer, root_of}

-- a question about an image, and what the request says to it
pub data Asks : Type 0 where
  -- the check, with the needed bytes lent: number, node, offset; and the check of the same bytes as an extents overflow file
  check : ℕ → ℕ → ℕ → Asks
  check_extents : ℕ → ℕ → ℕ → Asks
  -- a lookup of a parent and a name, with the needed bytes lent: number, node, offset, keys compared, length of the path, its eight places; and the data
  look : ℕ → List ℕ → List ℕ → List ℕ → Asks
  -- salvage of a parent and a name: number, node, offset; and the data
  sees : ℕ → List ℕ → List ℕ → List ℕ → Asks
  -- how a key compares with another; of no image
  compares : Key → Key → ℤ → Asks

pub record Case : Type 0 where
  pub image : List ℕ
  pub asks : Asks

-- what is answered of the data: where they start in the image and how many bytes they have; then the type and the fields, as the entry has them
abbrev part_numbers : Part → List ℕ
part_numbers p = p.at ∷ p.size ∷ []

abbrev fork_numbers : Fork → List ℕ
fork_numbers f =
    f.first_block ∷ f.logical_length ∷ f.physical_length
    ∷ f.extents.block1 ∷ f.extents.count1 ∷ f.extents.block2 ∷ f.extents.count2 ∷ f.extents.block3 ∷ f.extents.count3 ∷ []

abbrev thread_numbers : Thread → List ℕ
thread_numbers t = t.parent_id ∷ t.name_length ∷ []

abbrev entry_numbers : Entry → List ℕ
entry_numbers (kind.Directory d) = 1 ∷ d.flags ∷ d.valence ∷ d.directory_id ∷ d.created ∷ d.modified ∷ d.backed_up ∷ []
entry_numbers (kind.File f) =
    2 ∷ f.flags ∷ f.file_type ∷ f.file_id ∷ fork_numbers f.data_fork ++ fork_numbers f.resource_fork
    ++ f.created ∷ f.modified ∷ f.backed_up ∷ f.clump_size ∷ []
entry_numbers (kind.DirectoryThread t) = 3 ∷ thread_numbers t
entry_numbers (kind.FileThread t) = 4 ∷ thread_numbers t

abbrev found_numbers : Answer → List ℕ
found_numbers (answer.Found p e) = entry_numbers e
found_numbers (answer.Absent n) = []
found_numbers (answer.Refused number place) = []

abbrev seen_numbers : Salvage → List ℕ
seen_numbers (salvage.Seen p e) = entry_numbers e
seen_numbers salvage.NotSeen = []
seen_numbers (salvage.Refused number place) = []

abbrev pub look_numbers : List ℕ → Lookup → List ℕ
look_numbers img l = lookup_numbers (plain l) ++ part_numbers (found_part img l.answer) ++ found_numbers l.answer

abbrev salvage_numbers : List ℕ → Salvage → List ℕ
salvage_numbers img s = reply_numbers (salvage_reply (plain_seen s)) ++ part_numbers (seen_part img s) ++ seen_numbers s

abbrev Says : List ℕ → Asks → Type 0
Says img (check number node offset) = checked img (needed img) ≡ fails number (byte_of node offset)
Says img (check_extents number node offset) = extents.checked img (extents.needed img) ≡ fails number (byte_of node offset)
Says img (look parent name numbers entry) = look_numbers img (looked_up img (asked parent name) (needed img)) ≡ numbers ++ entry
Says img (sees parent name numbers entry) = salvage_numbers img (salvaged img (asked parent name)) ≡ numbers ++ entry
Says img (compares a b z) = compared a b ≡ z

abbrev pub Right : Case → Type 0
Right c = Says c.image c.asks

abbrev of : List ℕ → Asks → Case
of img q = record { image = img; asks = q }

-- a lookup whose path is node 1: number, offset in it, keys compared
abbrev in_one : ℕ → ℕ → ℕ → List ℕ
in_one number offset keys = number ∷ 1 ∷ offset ∷ keys ∷ 1 ∷ 1 ∷ replicate 7 0

-- a lookup whose path is node 1 and a leaf: number, leaf, offset in it, keys compared
abbrev in_two : ℕ → ℕ → ℕ → ℕ → List ℕ
in_two number node offset keys = number ∷ node ∷ offset ∷ keys ∷ 2 ∷ 1 ∷ node ∷ replicate 6 0

-- "refused means length 0"
abbrev refused : ℕ → ℕ → ℕ → List ℕ
refused number node offset = number ∷ node ∷ offset ∷ replicate 10 0

abbrev reply : ℕ → ℕ → ℕ → List ℕ
reply number node offset = number ∷ node ∷ offset ∷ []

-- "every other answer hands back the empty part at its start"
abbrev no_data : List ℕ
no_data = 0 ∷ 0 ∷ []

-- those of a directory in the image: where, its valence and its number
abbrev directory_data : ℕ → ℕ → ℕ → List ℕ
directory_data at valence id = at ∷ 70 ∷ 1 ∷ 0 ∷ valence ∷ id ∷ 0 ∷ 0 ∷ 0 ∷ []

-- those of the cartridge's three records
abbrev root_data : List ℕ
root_data = directory_data 542 1 2

abbrev thread_data : List ℕ
thread_data = 620 ∷ 46 ∷ 3 ∷ 1 ∷ 9 ∷ []

abbrev heights_data : List ℕ
heights_data = 680 ∷ 102 ∷ 2 ∷ 0 ∷ 0 ∷ 16 ∷ 20 ∷ 4000 ∷ 4096 ∷ 20 ∷ 2 ∷ 30 ∷ 2 ∷ 40 ∷ 1 ∷ replicate 13 0

-- what stands under a key, and what salvage sees
abbrev pub entries : List Case
entries =
    of empty_catalog (check 0 0 0) ∷
    of empty_catalog (look 2 (bytes "Heights") (12 ∷ replicate 12 0) no_data) ∷
    -- the bench catalog is sound, and each of its records is found
    of cartridge (check 0 0 0) ∷
    of cartridge (look 1 (bytes "Cartridge") (in_one 0 14 2) root_data) ∷
    of cartridge (look 2 [] (in_one 0 100 2) thread_data) ∷
    of cartridge (look 2 (bytes "Heights") (in_one 0 154 2) heights_data) ∷
    -- "Keys that weigh the same are the same key."
    of cartridge (look 2 (bytes "HEIGHTS") (in_one 0 154 2) heights_data) ∷
    of cartridge (look 2 (bytes "heights") (in_one 0 154 2) heights_data) ∷
    -- a name that begins the other, one that goes on after it, another parent
    of cartridge (look 2 (bytes "Height") (in_one 12 0 2) no_data) ∷
    of cartridge (look 2 (bytes "Heights2") (in_one 12 0 2) no_data) ∷
    of cartridge (look 1 (bytes "Heights") (in_one 12 0 2) no_data) ∷
    of cartridge (look 3 (bytes "Heights") (in_one 12 0 2) no_data) ∷
    -- "An asked name above 31 bytes is 11.", tested first
    of cartridge (look 2 (replicate 31 0x6E) (in_one 12 0 2) no_data) ∷
    of cartridge (look 2 (replicate 32 0x6E) (refused 11 0 0) no_data) ∷
    of [] (look 2 (replicate 32 0x6E) (refused 11 0 0) no_data) ∷
    -- salvage of the same; also under a header that is not right
    of cartridge (sees 1 (bytes "Cartridge") (reply 13 1 14) root_data) ∷
    of cartridge (sees 2 [] (reply 13 1 100) thread_data) ∷
    of cartridge (sees 2 (bytes "heights") (reply 13 1 154) heights_data) ∷
    of cartridge (sees 2 (bytes "Height") (reply 14 0 0) no_data) ∷
    of cartridge (sees 2 (replicate 32 0x6E) (reply 11 0 0) no_data) ∷
    of (put 34 (be16 7) cartridge) (sees 2 (bytes "Heights") (reply 13 1 154) heights_data) ∷
    -- "data by type (first byte)": each kind, with its fields
    of four_kinds (look 16 [] (in_one 0 14 3) (534 ∷ 70 ∷ 1 ∷ 0x0203 ∷ 0x0405 ∷ 0x06070809 ∷ 0x0A0B0C0D ∷ 0x0E0F1011 ∷ 0x12131415 ∷ [])) ∷
    of four_kinds
    (look 17 [] (in_one 0 92 2)
    (612 ∷ 102 ∷ 2 ∷ 0x02 ∷ 0x03 ∷ 0x14151617
    ∷ 0x1819 ∷ 0x1A1B1C1D ∷ 0x1E1F2021 ∷ 0x4A4B ∷ 0x4C4D ∷ 0x4E4F ∷ 0x5051 ∷ 0x5253 ∷ 0x5455
    ∷ 0x2223 ∷ 0x24252627 ∷ 0x28292A2B ∷ 0x5657 ∷ 0x5859 ∷ 0x5A5B ∷ 0x5C5D ∷ 0x5E5F ∷ 0x6061
    ∷ 0x2C2D2E2F ∷ 0x30313233 ∷ 0x34353637 ∷ 0x4849 ∷ [])) ∷
    of four_kinds (look 18 [] (in_one 0 202 2) (722 ∷ 46 ∷ 3 ∷ 0x0A0B0C0D ∷ 0x0E ∷ [])) ∷
    of four_kinds (sees 19 [] (reply 13 1 256) (776 ∷ 46 ∷ 4 ∷ 0x0A0B0C0D ∷ 0x0E ∷ [])) ∷
    []

-- the header and the records of a node
abbrev pub nodes : List Case
nodes =
    -- "reserved (1, not judged)", and the pad after the thread's key
    of (put 527 (0x55 ∷ []) (put 619 (0x55 ∷ []) cartridge)) (check 0 0 0) ∷
    -- "Header key length 37, else 2."; and the other tree's image
    of (put 34 (be16 7) cartridge) (check 2 0 0) ∷
    of (put 34 (be16 7) cartridge) (look 2 (bytes "Heights") (refused 2 0 0) no_data) ∷
    of l1 (check 2 0 0) ∷
    of cartridge (check_extents 2 0 0) ∷
    -- "another kind or size is 5": a thread of type 0 or 5; the length byte counts the pad; the data stand on an odd offset
    of (put 620 (0 ∷ []) cartridge) (check 5 1 0) ∷
    of (put 620 (5 ∷ []) cartridge) (check 5 1 0) ∷
    of (put 612 (7 ∷ []) cartridge) (check 5 1 0) ∷
    of unpadded (check 5 1 0) ∷
    -- a file of a directory's type, so of 70 bytes, or a file of 70 bytes; a directory of 70 is right
    of (put 680 (1 ∷ []) cartridge) (check 5 1 0) ∷
    of (put 1016 (be16 238) cartridge) (check 5 1 0) ∷
    of (put 680 (1 ∷ []) (put 1016 (be16 238) cartridge)) (check 0 0 0) ∷
    -- "name length (1, at most 31)"
    of (named_with 31) (check 0 0 0) ∷
    of (named_with 32) (check 5 1 0) ∷
    -- "no record reaches into its node's offset words, else 5"
    of (full_leaf 7) (check 0 0 0) ∷
    of (full_leaf 8) (check 5 1 0) ∷
    -- "A leaf holds 1 to 8 records, an index node 1 to 11": of the root's 11 the second leads where the first does
    of (leaf_of 9) (check 5 1 0) ∷
    of (root_of 11) (check 4 1 94) ∷
    of (root_of 12) (check 5 1 0) ∷
    []

-- keys, in a leaf, under a root and by themselves
abbrev pub keys : List Case
keys =
    -- "Order: parent number, then names by the HFS character order": bytes would put Bees first; the same key twice; "a name that begins another is below it"
    of (two_keys 2 (bytes "Bees") 2 (bytes "apples")) (check 6 1 96) ∷
    of (two_keys 2 (bytes "Heights") 2 (bytes "hEIGHTS")) (check 6 1 98) ∷
    of (two_keys 2 (bytes "Heights") 2 (bytes "hEIGHTS")) (sees 2 (bytes "Heights") (reply 14 0 0) no_data) ∷
    of (two_keys 2 (bytes "Heights") 3 (bytes "hEIGHTS")) (check 0 0 0) ∷
    of (two_keys 2 (bytes "Heights") 2 (bytes "Height")) (check 6 1 98) ∷
    -- parents are unsigned
    of (two_keys 2 (bytes "Heights") 0x80000000 (bytes "Height")) (check 0 0 0) ∷
    of (two_keys 0x80000000 (bytes "Heights") 2 (bytes "Heights")) (check 6 1 98) ∷
    -- W-205: "a pointer key equals the first key of its child, else 6": a key that weighs the same is the same
    of twin_pointer (check 0 0 0) ∷
    of (two_leaves_under (bytes "cow")) (check 6 3 14) ∷
    of (two_leaves_under (bytes "cowz")) (check 6 3 14) ∷
    -- "Index keys: length 37, .. bytes past the name not judged."
    of (put 526 (12 ∷ []) twin_pointer) (check 5 1 0) ∷
    of (put 539 (0x55 ∷ []) twin_pointer) (check 0 0 0) ∷
    -- found through the root, absent in a leaf, below every pointer
    of twin_pointer (look 2 (bytes "dogs") (in_two 0 3 96 2) (directory_data 1644 0 19)) ∷
    of twin_pointer (look 2 (bytes "BEES") (in_two 0 2 98 3) (directory_data 1134 0 17)) ∷
    of twin_pointer (look 2 (bytes "Bee") (in_two 12 2 0 4) no_data) ∷
    of twin_pointer (look 2 (bytes "apple") (in_one 12 0 2) no_data) ∷
    -- the order by itself: the letters alike in case and below braces and brackets, a grave accent between a and b; 20 and CA weigh the same
    of [] (compares (asked 2 (bytes "Heights")) (asked 2 (bytes "hEIGHTS")) (pos 0)) ∷
    of [] (compares (asked 2 (bytes "Height")) (asked 2 (bytes "heights")) (negsuc 0)) ∷
    of [] (compares (asked 2 (bytes "{}")) (asked 2 (bytes "zz")) (pos 1)) ∷
    of [] (compares (asked 2 (bytes "[]")) (asked 2 (bytes "aa")) (pos 1)) ∷
    of [] (compares (asked 2 (bytes "``")) (asked 2 (bytes "BB")) (negsuc 0)) ∷
    of [] (compares (asked 2 (0x20 ∷ [])) (asked 2 (0xCA ∷ [])) (pos 0)) ∷
    of [] (compares (asked 0x80000000 []) (asked 2 (bytes "Heights")) (pos 1)) ∷
    []

abbrev pub catalogs : List Case
catalogs = entries ++ nodes ++ keys
