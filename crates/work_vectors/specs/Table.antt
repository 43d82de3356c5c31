-- W-206: images, the bytes lent with them, the answer by the request, and the bytes afterwards.
-- Assumes nothing.
use Rattle.std.specs.Prelude.{◌≡◌, List, [], ◌∷◌, ◌++◌, ℕ, length, replicate, set}
use Rattle.btree.specs.Places.{byte_of}
use Rattle.btree.specs.Walk.{fails}
use Rattle.btree.specs.Numbers.{lookup_reply}
use Rattle.btree.specs.Work.{work_left}
use Rattle.frame.specs.Form.{hfs, layout_of}
use Rattle.extent_keys.specs.declared.key.Key.{Key}
use Rattle.extent_keys.specs.Key.{asked}
use Rattle.formats.specs.Format.{format_of}
use Rattle.extents.specs.Reader.{checked, looked_up}
use Rattle.vectors.specs.Build.{put, be32, header, e1, e2, l1, two_leaves}

pub data Call : Type 0 where
  -- the check: number, node, offset
  check : ℕ → ℕ → ℕ → Call
  -- a lookup of a key: number
  look : Key → ℕ → Call

pub record Case : Type 0 where
  pub image : List ℕ
  pub call : Call
  pub before : List ℕ
  pub after : List ℕ

abbrev number : Call → ℕ
number (check n node offset) = n
number (look k n) = n

abbrev Answers : List ℕ → ℕ → Call → Type 0
Answers img lent (check n node offset) = checked img lent ≡ fails n (byte_of node offset)
Answers img lent (look k n) = (lookup_reply (looked_up img k lent).answer).number ≡ n

abbrev pub Right : Case → Type 0
Right c = Answers c.image (length c.before) c.call × (work_left (layout_of hfs) c.image (format_of hfs) (number c.call) c.before ≡ c.after)

abbrev of : List ℕ → Call → List ℕ → List ℕ → Case
of img call before after = record { image = img; call = call; before = before; after = after }

-- nine nodes, of which eight are free
abbrev e9 : List ℕ
e9 = put 40 (be32 8) (header (replicate 18 0) 9 0x80) ++ replicate 4096 0

abbrev pub lent : List Case
lent =
    -- "After a sound verdict .. the needed bytes have set bits for exactly the nodes in use", "top bit first"; "Further bytes stay."
    of e1 (check 0 0 0) (0xFF ∷ []) (0x80 ∷ []) ∷
    of e1 (check 0 0 0) (0xFF ∷ 0xAA ∷ []) (0x80 ∷ 0xAA ∷ []) ∷
    of l1 (check 0 0 0) (0x01 ∷ 0x02 ∷ 0x03 ∷ []) (0xC0 ∷ 0x02 ∷ 0x03 ∷ []) ∷
    of e2 (check 0 0 0) (0x00 ∷ []) (0xC0 ∷ []) ∷
    of (two_leaves 2 1 1) (check 0 0 0) (0x0F ∷ []) (0xF0 ∷ []) ∷
    -- "one bit a node": nine nodes need two bytes
    of e9 (check 0 0 0) (0xFF ∷ 0xFF ∷ 0xFF ∷ []) (0x80 ∷ 0x00 ∷ 0xFF ∷ []) ∷
    of e9 (check 16 0 0) (0xFF ∷ []) (0xFF ∷ []) ∷
    -- "also within a lookup": found, absent
    of l1 (look (asked 16 0x00 5) 0) (0x01 ∷ 0x02 ∷ []) (0xC0 ∷ 0x02 ∷ []) ∷
    of l1 (look (asked 16 0xFF 5) 12) (0x01 ∷ 0x02 ∷ []) (0xC0 ∷ 0x02 ∷ []) ∷
    -- "Fewer than the nodes need: 16, tested after 11, 15 and 1; on these four nothing is touched."
    of e1 (check 16 0 0) [] [] ∷
    of (replicate 512 0) (check 16 0 0) [] [] ∷
    of (replicate 511 0) (check 1 0 0) [] [] ∷
    of (replicate 511 0) (check 1 0 0) (0x07 ∷ []) (0x07 ∷ []) ∷
    of l1 (look (asked 16 0x00 5) 16) [] [] ∷
    of l1 (look (asked 16 0x01 5) 11) (0x07 ∷ 0x09 ∷ []) (0x07 ∷ 0x09 ∷ []) ∷
    of (replicate 511 0) (look (asked 16 0x01 5) 11) [] [] ∷
    -- "after any fault of 2 to 10 they are zero"
    of (replicate 512 0) (check 2 0 0) (0x07 ∷ 0x09 ∷ []) (0x00 ∷ 0x09 ∷ []) ∷
    of (set e2 520 1) (check 3 1 0) (0x07 ∷ 0x09 ∷ []) (0x00 ∷ 0x09 ∷ []) ∷
    of (set l1 19 2) (check 4 0 16) (0x07 ∷ 0x09 ∷ []) (0x00 ∷ 0x09 ∷ []) ∷
    of (set l1 519 1) (check 7 1 4) (0x07 ∷ 0x09 ∷ []) (0x00 ∷ 0x09 ∷ []) ∷
    of (set l1 519 1) (look (asked 16 0x00 5) 7) (0x07 ∷ 0x09 ∷ []) (0x00 ∷ 0x09 ∷ []) ∷
    of (set l1 43 1) (check 10 0 0) (0x07 ∷ 0x09 ∷ []) (0x00 ∷ 0x09 ∷ []) ∷
    []
