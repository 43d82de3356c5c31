-- W-203: images, rows of packed keys with the rows of results and bytes lent, the answer by the request, and both afterwards.
-- Assumes nothing.
use Rattle.std.specs.Prelude.{◌≡◌, List, [], ◌∷◌, ℕ, length, replicate, set}
use Rattle.btree.specs.declared.Verdict.{Verdict}
use Rattle.btree.specs.Places.{byte_of}
use Rattle.btree.specs.Walk.{fails}
use Rattle.btree.specs.Work.{work_left}
use Rattle.frame.specs.Form.{hfs, layout_of}
use Rattle.formats.specs.Format.{format_of}
use Rattle.extents.specs.Many.{many_answer, many_results}
use Rattle.vectors.specs.Build.{key_bytes, e1, l1, two_leaves, three_levels_under}

-- the rows that a call is lent
pub record Rows : Type 0 where
  pub results : List ℕ
  pub work : List ℕ

pub record Case : Type 0 where
  pub image : List ℕ
  pub keys : List ℕ
  pub before : Rows
  pub answer : Verdict
  pub after : Rows

abbrev pub Right : Case → Type 0
Right c =
    (many_answer c.image c.keys c.before.results (length c.before.work) ≡ c.answer)
    × (many_results c.image c.keys c.before.results (length c.before.work) ≡ c.after.results)
    × (work_left (layout_of hfs) c.image (format_of hfs) c.answer.number c.before.work ≡ c.after.work)

abbrev rows : List ℕ → List ℕ → Rows
rows results work = record { results = results; work = work }

-- number, node and offset
abbrev says : ℕ → ℕ → ℕ → Verdict
says number node offset = fails number (byte_of node offset)

abbrev of : List ℕ → List ℕ → Rows → Verdict → Rows → Case
of img keys before answer after = record { image = img; keys = keys; before = before; answer = answer; after = after }

-- packed: (16, 00, 5), L1's key; (16, FF, 5); and with the fork byte 01. The paper has (16, FF, 0) as 285,147,136 and (17, 00, 0) as 285,212,672.
abbrev data_fork : ℕ
data_fork = 268435461

abbrev resource_fork : ℕ
resource_fork = 285147141

abbrev no_fork : ℕ
no_fork = 268500997

-- 2 to the 56
abbrev too_large : ℕ
too_large = 72057594037927936

abbrev pub many : List Case
many =
    -- "A result is the byte place of the 12 data bytes": node 1, record at 14, data 8 further; "0 for absent"; "Places beyond the keys stay."
    of l1 (data_fork ∷ resource_fork ∷ []) (rows (9 ∷ 9 ∷ 9 ∷ []) (0x07 ∷ 0x08 ∷ [])) (says 0 0 0) (rows (534 ∷ 0 ∷ 9 ∷ []) (0xC0 ∷ 0x08 ∷ [])) ∷
    -- "1 for a key whose fork byte is wrong or which is 2 to the 56 or more", whatever its other bits are
    of l1 (no_fork ∷ too_large ∷ 72057594306363397 ∷ 18446744073709551615 ∷ data_fork ∷ []) (rows (replicate 5 9) (0x07 ∷ [])) (says 0 0 0)
    (rows (1 ∷ 1 ∷ 1 ∷ 1 ∷ 534 ∷ []) (0xC0 ∷ [])) ∷
    -- the highest number that is a key
    of l1 (72057594037927935 ∷ []) (rows (9 ∷ []) (0x07 ∷ [])) (says 0 0 0) (rows (0 ∷ []) (0xC0 ∷ [])) ∷
    -- a tree of depth 0; no keys
    of e1 (data_fork ∷ no_fork ∷ []) (rows (9 ∷ 9 ∷ []) (0x07 ∷ [])) (says 0 0 0) (rows (0 ∷ 1 ∷ []) (0x80 ∷ [])) ∷
    of e1 [] (rows [] (0x07 ∷ [])) (says 0 0 0) (rows [] (0x80 ∷ [])) ∷
    of e1 [] (rows (9 ∷ []) (0x07 ∷ [])) (says 0 0 0) (rows (9 ∷ []) (0x80 ∷ [])) ∷
    -- two levels, in any order, a key twice; the record behind the first of node 3; below every pointer; between two records
    of (two_leaves 2 1 1) (285212672 ∷ data_fork ∷ 285147136 ∷ 285212672 ∷ 268435460 ∷ resource_fork ∷ []) (rows (replicate 6 9) (0x07 ∷ [])) (says 0 0 0)
    (rows (1578 ∷ 1046 ∷ 1558 ∷ 1578 ∷ 0 ∷ 0 ∷ []) (0xF0 ∷ [])) ∷
    -- three levels
    of (three_levels_under (key_bytes 0x10 0x00 5)) (data_fork ∷ []) (rows (9 ∷ []) (0x07 ∷ [])) (says 0 0 0) (rows (1558 ∷ []) (0xF0 ∷ [])) ∷
    -- "A result row shorter than the key row is refused as 15, tested before the check": of a sound image, and before 1, 16 and a fault; nothing is touched
    of l1 (data_fork ∷ resource_fork ∷ []) (rows (9 ∷ []) (0x07 ∷ [])) (says 15 0 0) (rows (9 ∷ []) (0x07 ∷ [])) ∷
    of (replicate 511 0) (data_fork ∷ []) (rows [] (0x07 ∷ [])) (says 15 0 0) (rows [] (0x07 ∷ [])) ∷
    of l1 (data_fork ∷ []) (rows [] []) (says 15 0 0) (rows [] []) ∷
    of (set l1 519 1) (data_fork ∷ []) (rows [] (0x07 ∷ [])) (says 15 0 0) (rows [] (0x07 ∷ [])) ∷
    -- "on 15 or an unsound image no result is written": 1, 16, and faults, with their places; also with no key
    of (replicate 511 0) (data_fork ∷ []) (rows (9 ∷ []) (0x07 ∷ [])) (says 1 0 0) (rows (9 ∷ []) (0x07 ∷ [])) ∷
    of l1 (data_fork ∷ []) (rows (9 ∷ []) []) (says 16 0 0) (rows (9 ∷ []) []) ∷
    of (replicate 512 0) (data_fork ∷ []) (rows (9 ∷ []) (0x07 ∷ [])) (says 2 0 0) (rows (9 ∷ []) (0x00 ∷ [])) ∷
    of (set l1 519 1) (data_fork ∷ no_fork ∷ []) (rows (9 ∷ 9 ∷ []) (0x07 ∷ 0x08 ∷ [])) (says 7 1 4) (rows (9 ∷ 9 ∷ []) (0x00 ∷ 0x08 ∷ [])) ∷
    of (set l1 43 1) (data_fork ∷ []) (rows (9 ∷ []) (0x07 ∷ [])) (says 10 0 0) (rows (9 ∷ []) (0x00 ∷ [])) ∷
    of (set l1 519 1) [] (rows [] (0x07 ∷ [])) (says 7 1 4) (rows [] (0x00 ∷ [])) ∷
    []
