-- The images on the bench that are marked *, W-201's of two levels, W-202's halvings and W-205's of other pointer keys: an image, a question about it, and
-- the answer by the paper or the request.
-- Assumes nothing.
use Rattle.std.specs.Prelude.{◌≡◌, List, [], ◌∷◌, ℕ, ◌+◌, ◌*◌, ℤ, negsuc, replicate, set}
use Rattle.btree.specs.Places.{byte_of}
use Rattle.btree.specs.Walk.{fails}
use Rattle.btree.specs.Numbers.{lookup_numbers, salvage_reply}
use Rattle.btree.specs.Halving.{halved}
use Rattle.extent_keys.specs.declared.key.Key.{Key}
use Rattle.extent_keys.specs.Key.{Lawful, packed, compared, asked}
use Rattle.extents.specs.Reader.{needed, checked, looked_up, salvaged}
use Rattle.vectors.specs.Build.{key_bytes, e1, l1, two_leaves, two_leaves_under, three_levels_under}

-- a question about an image, and what the paper says to it
pub data Asks : Type 0 where
  -- the check, with the needed bytes lent: number, node, offset
  check : ℕ → ℕ → ℕ → Asks
  -- a lookup of one key, with the needed bytes lent: number, node, offset, keys compared, length of the path, its eight places
  look : Key → List ℕ → Asks
  -- a lookup of any key with a lawful fork byte
  look_any : List ℕ → Asks
  -- salvage of one key: number, node, offset
  sees : Key → ℕ → ℕ → ℕ → Asks
  -- a key's packed number, and how it compares with another; of no image
  packs : Key → ℕ → Asks
  compares : Key → Key → ℤ → Asks
  -- halving among so many records, whose keys are 10, 20 and so on, for a key: after how many records it ends, and how many keys it compared; of no image
  halves : ℕ → ℕ → ℕ → ℕ → Asks

pub record Case : Type 0 where
  pub image : List ℕ
  pub asks : Asks

abbrev pub Says : List ℕ → Asks → Type 0
Says img (check number node offset) = checked img (needed img) ≡ fails number (byte_of node offset)
Says img (look k numbers) = lookup_numbers (looked_up img k (needed img)) ≡ numbers
Says img (look_any numbers) = (file fork start : ℕ) → Lawful fork → lookup_numbers (looked_up img (asked file fork start) (needed img)) ≡ numbers
Says img (sees k number node offset) = salvage_reply (salvaged img k) ≡ fails number (byte_of node offset)
Says img (packs k n) = packed k ≡ n
Says img (compares a b z) = compared a b ≡ z
Says img (halves count k end keys) = halved (λ i. i * 10 + 10) k count ≡ record { end = end; compared = keys }

abbrev pub Right : Case → Type 0
Right c = Says c.image c.asks

abbrev pub of : List ℕ → Asks → Case
of img q = record { image = img; asks = q }

abbrev pub bench : List Case
bench =
    -- "Length 0, 511: 1."
    of [] (check 1 0 0) ∷
    of (replicate 511 0) (check 1 0 0) ∷
    -- "E1 ..: 0. Any good key: 12, place 0, road length 0."
    of e1 (check 0 0 0) ∷
    of e1 (look_any (12 ∷ 0 ∷ 0 ∷ 0 ∷ 0 ∷ 0 ∷ 0 ∷ 0 ∷ 0 ∷ 0 ∷ 0 ∷ 0 ∷ 0 ∷ [])) ∷
    -- "E1 with map byte 00: 9 ..; with C0: 9 .. E1 with free 1: 10." W-208: "for 9 the map byte in its node", which is the same for both bits
    of (set e1 248 0x00) (check 9 0 248) ∷
    of (set e1 248 0xC0) (check 9 0 248) ∷
    of (set e1 43 1) (check 10 0 0) ∷
    -- "L1 .. Sound. Key (16, 00, 5): found at node 1 record 0, road 1. Key (16, FF, 5): 12 place 1. Fork 01: 11." W-208: "Found and seen give the record's start"
    of l1 (check 0 0 0) ∷
    of l1 (look (asked 16 0x00 5) (0 ∷ 1 ∷ 14 ∷ 1 ∷ 1 ∷ 1 ∷ 0 ∷ 0 ∷ 0 ∷ 0 ∷ 0 ∷ 0 ∷ 0 ∷ [])) ∷
    of l1 (look (asked 16 0xFF 5) (12 ∷ 1 ∷ 0 ∷ 1 ∷ 1 ∷ 1 ∷ 0 ∷ 0 ∷ 0 ∷ 0 ∷ 0 ∷ 0 ∷ 0 ∷ [])) ∷
    of l1 (look (asked 16 0x01 5) (11 ∷ 0 ∷ 0 ∷ 0 ∷ 0 ∷ 0 ∷ 0 ∷ 0 ∷ 0 ∷ 0 ∷ 0 ∷ 0 ∷ 0 ∷ [])) ∷
    -- "L1 with node 1's back link 1: 7 place 1." W-208: "For 7 the link"
    of (set l1 519 1) (check 7 1 4) ∷
    -- W-201: "the root's level is the depth, each child's is one less than its parent's, and leaves are exactly the nodes of level 1": sound
    of (two_leaves 2 1 1) (check 0 0 0) ∷
    -- a key found through the root, and a key below every pointer
    of (two_leaves 2 1 1) (look (asked 17 0x00 0) (0 ∷ 3 ∷ 34 ∷ 2 ∷ 2 ∷ 1 ∷ 3 ∷ 0 ∷ 0 ∷ 0 ∷ 0 ∷ 0 ∷ 0 ∷ [])) ∷
    of (two_leaves 2 1 1) (look (asked 16 0x00 4) (12 ∷ 1 ∷ 0 ∷ 2 ∷ 1 ∷ 1 ∷ 0 ∷ 0 ∷ 0 ∷ 0 ∷ 0 ∷ 0 ∷ 0 ∷ [])) ∷
    -- W-202: "it compares the middle one of those left (of two, the later), and goes on after it if its key is not above the asked one, else before it":
    -- two keys of the root and one of leaf 2; one of the root, which is the asked one, and two of leaf 3; two of the root and one of leaf 2, where none is found
    of (two_leaves 2 1 1) (look (asked 16 0x00 5) (0 ∷ 2 ∷ 14 ∷ 3 ∷ 2 ∷ 1 ∷ 2 ∷ 0 ∷ 0 ∷ 0 ∷ 0 ∷ 0 ∷ 0 ∷ [])) ∷
    of (two_leaves 2 1 1) (look (asked 16 0xFF 0) (0 ∷ 3 ∷ 14 ∷ 3 ∷ 2 ∷ 1 ∷ 3 ∷ 0 ∷ 0 ∷ 0 ∷ 0 ∷ 0 ∷ 0 ∷ [])) ∷
    of (two_leaves 2 1 1) (look (asked 16 0x00 9) (12 ∷ 2 ∷ 0 ∷ 3 ∷ 2 ∷ 1 ∷ 2 ∷ 0 ∷ 0 ∷ 0 ∷ 0 ∷ 0 ∷ 0 ∷ [])) ∷
    -- levels counted from the root; leaves of level 0; one leaf of level 2
    of (two_leaves 1 2 2) (check 5 1 0) ∷
    of (two_leaves 2 0 0) (check 5 2 0) ∷
    of (two_leaves 2 1 2) (check 5 3 0) ∷
    -- W-205: "a pointer key equals the first key of its child, else 6": below it, which all other rules allow, and so refused; W-208: "or breaks another rule"
    of (two_leaves_under (key_bytes 0x10 0x00 5) (key_bytes 0x10 0x00 6)) (check 6 3 14) ∷
    of (two_leaves_under (key_bytes 0x10 0x00 5) (key_bytes 0x10 0x00 6)) (look (asked 16 0xFF 0) (6 ∷ 3 ∷ 14 ∷ 0 ∷ 0 ∷ 0 ∷ 0 ∷ 0 ∷ 0 ∷ 0 ∷ 0 ∷ 0 ∷ 0 ∷ [])) ∷
    of (two_leaves_under (key_bytes 0x10 0x00 4) (key_bytes 0x10 0xFF 0)) (check 6 2 14) ∷
    -- at the child's last key
    of (two_leaves_under (key_bytes 0x10 0x00 5) (key_bytes 0x11 0x00 0)) (check 6 3 14) ∷
    -- over an index node: its first key, and one below
    of (three_levels_under (key_bytes 0x10 0x00 5)) (check 0 0 0) ∷
    of (three_levels_under (key_bytes 0x10 0x00 4)) (check 6 2 14) ∷
    -- "Order: (16, 00, 9) below (16, FF, 0) below (17, 00, 0); packed 268,435,465, 285,147,136, 285,212,672."
    of [] (compares (asked 16 0x00 9) (asked 16 0xFF 0) (negsuc 0)) ∷
    of [] (compares (asked 16 0xFF 0) (asked 17 0x00 0) (negsuc 0)) ∷
    of [] (packs (asked 16 0x00 9) 268435465) ∷
    of [] (packs (asked 16 0xFF 0) 285147136) ∷
    of [] (packs (asked 17 0x00 0) 285212672) ∷
    -- W-202: of none; of two for a key above both and one between them; past an equal key, "until none is left"
    of [] (halves 0 10 0 0) ∷
    of [] (halves 2 25 2 1) ∷
    of [] (halves 2 15 1 2) ∷
    of [] (halves 3 20 2 2) ∷
    -- "at most six in a 512-byte node": of a leaf's 22 and of an index node's 35, for a key below all and for one above all
    of [] (halves 22 5 0 5) ∷
    of [] (halves 22 999 22 4) ∷
    of [] (halves 35 5 0 6) ∷
    of [] (halves 35 999 35 5) ∷
    []
