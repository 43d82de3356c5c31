-- W-211: a small HFS Plus tree and other images, an edition and a node size, a question, and the answer by the request.
-- Assumes nothing.
use Rattle.std.specs.Prelude.{◌≡◌, List, [], ◌∷◌, ◌++◌, ℕ, zero, suc, ◌+◌, ◌-◌, ◌*◌, replicate}
use Rattle.btree.specs.Places.{byte_of}
use Rattle.btree.specs.Walk.{fails}
use Rattle.btree.specs.Numbers.{lookup_numbers, salvage_reply}
use Rattle.btree.specs.Work.{work_left}
use Rattle.frame.specs.declared.form.Form.{Form}
use Rattle.frame.specs.Form.{form_of, layout_of}
use Rattle.extent_keys.specs.declared.key.Key.{Key}
use Rattle.extent_keys.specs.Key.{asked}
use Rattle.formats.specs.Format.{format_of}
use Rattle.reader.specs.Reader.{needed}
use Rattle.editions.specs.Editions.{checked_as, looked_up_as, salvaged_as}
use Rattle.vectors.specs.Build.{put, be16, be32, header_of, node_of, no_tree, one_leaf, e1, e2, l1}

-- a question about an image of a form, and what the request says to it
pub data Asks : Type 0 where
  -- the check, with the needed bytes lent: number, node, offset
  check : ℕ → ℕ → ℕ → Asks
  -- a lookup of one key, with the needed bytes lent: number, node, offset, keys compared, length of the path, its eight places
  look : Key → List ℕ → Asks
  -- salvage of one key: number, node, offset
  sees : Key → ℕ → ℕ → ℕ → Asks
  -- what a call with this number leaves in bytes lent to it: before, after
  leaves : ℕ → List ℕ → List ℕ → Asks

pub record Case : Type 0 where
  pub form : Form
  pub image : List ℕ
  pub asks : Asks

abbrev Says : Form → List ℕ → Asks → Type 0
Says form img (check number node offset) = checked_as form img (needed form img) ≡ fails number (byte_of node offset)
Says form img (look k numbers) = lookup_numbers (looked_up_as form img k (needed form img)) ≡ numbers
Says form img (sees k number node offset) = salvage_reply (salvaged_as form img k) ≡ fails number (byte_of node offset)
Says form img (leaves number before after) = work_left (layout_of form) img (format_of form) number before ≡ after

abbrev pub Right : Case → Type 0
Right c = Says c.form c.image c.asks

abbrev of : ℕ → ℕ → List ℕ → Asks → Case
of edition size img q = record { form = form_of edition size; image = img; asks = q }

-- "a 12-byte key (length 10 in two bytes ..; fork, pad not judged, file, 32-bit start block)"
abbrev plus_key : ℕ → ℕ → ℕ → ℕ → List ℕ
plus_key fork pad file start = be16 10 ++ fork ∷ pad ∷ be32 file ++ be32 start

-- "eight pairs of 32-bit numbers as data", all but the first zero
abbrev one_pair : ℕ → ℕ → List ℕ
one_pair first count = be32 first ++ be32 count ++ replicate 56 0

-- a header alone, of so many bytes
abbrev empty_plus : ℕ → List ℕ
empty_plus size = header_of size 10 no_tree 1 0x80

-- a header and a map node of 512 bytes, by the map node's free offset: "the node size less 6"
abbrev mapped_plus : ℕ → List ℕ
mapped_plus free =
    put 0 (be32 1) (header_of 512 10 no_tree 2 0xC0)
    ++ node_of 512 (be32 0 ++ be32 0 ++ 0x02 ∷ 0 ∷ be16 1) [] (be16 free ++ be16 0xE)

-- one leaf with one record, in nodes of this size; its key and the free offset after its 76 bytes
abbrev leaf_plus : ℕ → List ℕ → List ℕ
leaf_plus size key =
    header_of size 10 one_leaf 2 0xC0
    ++ node_of size (be32 0 ++ be32 0 ++ 0xFF ∷ 1 ∷ be16 1) (key ++ one_pair 0x64 3) (be16 0x5A ++ be16 0xE)

abbrev small_plus : List ℕ
small_plus = leaf_plus 512 (plus_key 0x00 0xAA 0x10 65541)

-- so many index records from file number i on, which all lead to node 2
abbrev pointers : ℕ → ℕ → List ℕ
pointers i zero = []
pointers i (suc n) = plus_key 0x00 0x00 i 0 ++ be32 2 ++ pointers (suc i) n

-- the offset words of so many
abbrev offset_words : ℕ → List ℕ
offset_words zero = be16 14
offset_words (suc n) = be16 (14 + 16 * suc n) ++ offset_words n

-- A root with so many records, whose offset words are all right: they are laid down last, and of 28 records they take the last one's start block and child.
-- Node 2, where all lead, is a leaf with one record, the first key.
abbrev root_plus : ℕ → List ℕ
root_plus n =
    header_of 512 10 (be16 2 ++ be32 1 ++ be32 1 ++ be32 2 ++ be32 2) 3 0xE0
    ++ put (512 - 2 * suc n) (offset_words n) (node_of 512 (be32 0 ++ be32 0 ++ 0x00 ∷ 2 ∷ be16 n) (pointers 16 n) [])
    ++ node_of 512 (be32 0 ++ be32 0 ++ 0xFF ∷ 1 ∷ be16 1) (plus_key 0x00 0x00 16 0 ++ one_pair 0x64 3) (be16 0x5A ++ be16 0xE)

abbrev pub editions : List Case
editions =
    -- sound in HFS Plus at 512, whatever the pad is; a key found, one of the other fork, and one whose start block is the same but for the high half
    of 1 512 small_plus (check 0 0 0) ∷
    of 1 512 (leaf_plus 512 (plus_key 0xFF 0x00 0x10 65541)) (check 0 0 0) ∷
    of 1 512 small_plus (look (asked 16 0x00 65541) (0 ∷ 1 ∷ 14 ∷ 1 ∷ 1 ∷ 1 ∷ 0 ∷ 0 ∷ 0 ∷ 0 ∷ 0 ∷ 0 ∷ 0 ∷ [])) ∷
    of 1 512 small_plus (look (asked 16 0xFF 65541) (12 ∷ 1 ∷ 0 ∷ 1 ∷ 1 ∷ 1 ∷ 0 ∷ 0 ∷ 0 ∷ 0 ∷ 0 ∷ 0 ∷ 0 ∷ [])) ∷
    of 1 512 small_plus (look (asked 16 0x00 5) (12 ∷ 1 ∷ 0 ∷ 1 ∷ 1 ∷ 1 ∷ 0 ∷ 0 ∷ 0 ∷ 0 ∷ 0 ∷ 0 ∷ 0 ∷ [])) ∷
    of 1 512 small_plus (look (asked 16 0x01 65541) (11 ∷ 0 ∷ 0 ∷ 0 ∷ 0 ∷ 0 ∷ 0 ∷ 0 ∷ 0 ∷ 0 ∷ 0 ∷ 0 ∷ 0 ∷ [])) ∷
    of 1 512 small_plus (sees (asked 16 0x00 65541) 13 1 14) ∷
    of 1 512 small_plus (sees (asked 16 0x00 5) 14 0 0) ∷
    -- 5: a fork byte that is not lawful; "length 10 in two bytes"
    of 1 512 (leaf_plus 512 (plus_key 0x01 0x00 0x10 5)) (check 5 1 0) ∷
    of 1 512 (put 526 (be16 7) small_plus) (check 5 1 0) ∷
    of 1 512 (put 526 (0x0A ∷ 0x00 ∷ []) small_plus) (check 5 1 0) ∷
    of 1 512 (put 526 (0x01 ∷ 0x0A ∷ []) small_plus) (check 5 1 0) ∷
    -- "as many records as fit before their offset words": 27 of an index node, 1 more is 5
    of 1 512 (root_plus 27) (check 4 1 42) ∷
    of 1 512 (root_plus 28) (check 5 1 0) ∷
    -- the same tree in nodes of 1,024 bytes
    of 1 1024 (leaf_plus 1024 (plus_key 0x00 0xAA 0x10 65541)) (check 0 0 0) ∷
    of 1 1024 (leaf_plus 1024 (plus_key 0x00 0xAA 0x10 65541)) (look (asked 16 0x00 65541) (0 ∷ 1 ∷ 14 ∷ 1 ∷ 1 ∷ 1 ∷ 0 ∷ 0 ∷ 0 ∷ 0 ∷ 0 ∷ 0 ∷ 0 ∷ [])) ∷
    of 1 1024 (leaf_plus 1024 (plus_key 0x00 0xAA 0x10 65541)) (sees (asked 16 0x00 65541) 13 1 14) ∷
    -- "a header that has another is 2": another size, or the other edition's key length
    of 1 512 (put 32 (be16 1024) (empty_plus 512)) (check 2 0 0) ∷
    of 1 512 e1 (check 2 0 0) ∷
    of 0 512 small_plus (check 2 0 0) ∷
    of 1 1024 (replicate 1023 0) (check 1 0 0) ∷
    -- a map node's free offset in each edition, and the other's
    of 1 512 (mapped_plus 0x1FA) (check 0 0 0) ∷
    of 1 512 (mapped_plus 0x1FC) (check 3 1 0) ∷
    of 0 512 (put 1020 (be16 0x1FA) e2) (check 3 1 0) ∷
    -- "A start block above 65,535 asked of an HFS image is simply not there: absent or not seen."
    of 0 512 l1 (look (asked 16 0x00 65541) (12 ∷ 1 ∷ 0 ∷ 1 ∷ 1 ∷ 1 ∷ 0 ∷ 0 ∷ 0 ∷ 0 ∷ 0 ∷ 0 ∷ 0 ∷ [])) ∷
    of 0 512 l1 (sees (asked 16 0x00 65541) 14 0 0) ∷
    -- "a size not listed, or not 512 for HFS, is 25, tested first"; an edition that is neither
    of 0 1024 l1 (check 25 0 0) ∷
    of 1 256 small_plus (check 25 0 0) ∷
    of 1 768 small_plus (check 25 0 0) ∷
    of 1 65536 small_plus (check 25 0 0) ∷
    of 2 512 small_plus (check 25 0 0) ∷
    of 1 0 [] (check 25 0 0) ∷
    of 0 0 [] (look (asked 16 0x01 5) (25 ∷ 0 ∷ 0 ∷ 0 ∷ 0 ∷ 0 ∷ 0 ∷ 0 ∷ 0 ∷ 0 ∷ 0 ∷ 0 ∷ 0 ∷ [])) ∷
    of 2 512 small_plus (sees (asked 16 0x01 5) 25 0 0) ∷
    -- the bytes lent: "nothing touched" on 25; the nodes in use after a sound verdict; zeros after a fault; further bytes stay
    of 0 1024 l1 (leaves 25 (0x55 ∷ 0x66 ∷ []) (0x55 ∷ 0x66 ∷ [])) ∷
    of 1 512 small_plus (leaves 0 (0x55 ∷ 0x66 ∷ []) (0xC0 ∷ 0x66 ∷ [])) ∷
    of 1 512 small_plus (leaves 5 (0x55 ∷ 0x66 ∷ []) (0x00 ∷ 0x66 ∷ [])) ∷
    []
