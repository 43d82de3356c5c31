-- The records of a node of an extents overflow file: their sizes, where they start, and when they are right.
-- Assumes nothing.
use Rattle.std.specs.Prelude.{◌≡◌, List, ℕ, suc, ◌+◌, ◌-◌, ◌*◌, ◌≤◌, ◌<◌, get_or}
use Rattle.std.proofs.Math.Logic.Dec
use Rattle.std.proofs.Math.Decide.{ℕ_discrete, dec_le}
use Rattle.image.specs.Bytes.{be16_at}
use Rattle.btree.specs.Decide.{cond, map_dec, dec_all}
use Rattle.btree.specs.Header.{count_of}
use Rattle.frame.specs.declared.form.Form.{Form}
use Rattle.frame.specs.Form.{by_edition, key_length, key_size, layout_of}
use Rattle.frame.specs.Kinds.{leaf_kind}
use Rattle.extent_keys.specs.Key.{Lawful, dec_lawful, key_at}

module _ (form : Form) where
  -- "12 bytes, three pairs of first block and block count"; W-211: "eight pairs of 32-bit numbers as data"
  unfoldable pub data_size : ℕ
  data_size = by_edition form 12 64

  -- "Leaf record: key and" data; "Index record: key and a child's node number (4)."
  unfoldable pub record_size : ℕ → ℕ
  record_size kind = key_size form + cond (ℕ_discrete kind leaf_kind) data_size 4

  -- W-211: "A leaf or index node holds from 1 to as many records as fit before their offset words", of which there is one more;
  -- in HFS "a leaf holds 1 to 22 and an index node 1 to 35"
  abbrev pub Holds : ℕ → ℕ → Type 0
  Holds kind c = 14 + c * record_size kind + 2 * (c + 1) ≤ form.size

  abbrev dec_holds : (kind c : ℕ) → Dec (Holds kind c)
  dec_holds kind c = dec_le (14 + c * record_size kind + 2 * (c + 1)) form.size

  -- "Records lie side by side from 0E": where record i of a node of this kind starts in it, and in the image
  abbrev pub start_in : ℕ → ℕ → ℕ
  start_in kind i = 14 + i * record_size kind

  abbrev pub start_at : ℕ → ℕ → ℕ → ℕ
  start_at kind n i = n * form.size + start_in kind i

  module _ (img : List ℕ) where
    -- a key has "length 07"; W-211: "length 10 in two bytes"
    unfoldable pub length_at : ℕ → ℕ
    length_at at = by_edition form (get_or img at 0) (be16_at img at)

    -- the key that stands at this byte has its length, and a lawful fork byte: "00 data, FF resource"
    pub record KeyLaw (at : ℕ) : Type 0 where
      pub length : length_at at ≡ key_length form
      pub fork : Lawful (key_at form img at).fork

    -- the records of a node of this kind
    pub record ExtentRecords (kind n : ℕ) : Type 0 where
      pub few : Holds kind (count_of (layout_of form) img n)
      -- "Record offsets are words from the end of the node backwards"; "There is one offset more than records, and it points to the free space."
      pub offsets : (i : ℕ) → i < suc (count_of (layout_of form) img n) → be16_at img (n * form.size + (form.size - 2 - 2 * i)) ≡ start_in kind i
      pub keys : (i : ℕ) → i < count_of (layout_of form) img n → KeyLaw (start_at kind n i)

    unfoldable pub dec_key_law : (at : ℕ) → Dec (KeyLaw at)
    dec_key_law at =
        map_dec (λ (a, b). record { length = a; fork = b }) (λ l. (l.length, l.fork))
        (Dec.and (ℕ_discrete (length_at at) (key_length form)) (dec_lawful (key_at form img at).fork))

    unfoldable pub dec_extent_records : (kind n : ℕ) → Dec (ExtentRecords kind n)
    dec_extent_records kind n =
        map_dec
        (λ ((a, b), c). record { few = a; offsets = b; keys = c })
        (λ r. ((r.few, r.offsets), r.keys))
        (Dec.and (Dec.and
        (dec_holds kind (count_of (layout_of form) img n))
        (dec_all (λ i. ℕ_discrete (be16_at img (n * form.size + (form.size - 2 - 2 * i))) (start_in kind i)) (suc (count_of (layout_of form) img n))))
        (dec_all (λ i. dec_key_law (start_at kind n i)) (count_of (layout_of form) img n)))
