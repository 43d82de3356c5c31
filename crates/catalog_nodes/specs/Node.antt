-- The nodes of a catalog file: where their records stand, and when they are right.
-- Assumes nothing.
use Rattle.std.specs.Prelude.{◌≡◌, List, [], ◌∷◌, ℕ, suc, ◌+◌, ◌-◌, ◌*◌, ◌%◌, ◌≤◌, ◌<◌, get_or}
use Rattle.std.proofs.Math.Logic.Dec
use Rattle.std.proofs.Math.Decide.{ℕ_discrete, dec_le}
use Rattle.image.specs.Bytes.{be16_at}
use Rattle.btree.specs.Decide.{cond, map_dec, dec_imp, dec_all}
use Rattle.btree.specs.Header.{count_of}
use Rattle.frame.specs.declared.form.Form.{Form}
use Rattle.frame.specs.Form.{layout_of}
use Rattle.frame.specs.Kinds.{leaf_kind}

-- "A leaf holds 1 to 8 records, an index node 1 to 11"
unfoldable pub max_records : ℕ → ℕ
max_records kind = cond (ℕ_discrete kind leaf_kind) 8 11

-- "index keys stored at full length 37; leaf keys at 6 plus the name length"
unfoldable pub key_length_of : ℕ → ℕ → ℕ
key_length_of kind name = cond (ℕ_discrete kind leaf_kind) (6 + name) 37

-- "four kinds of leaf record (types 1 to 4, data of 70, 102, 46 and 46 bytes)"
unfoldable pub size_of_type : ℕ → ℕ
size_of_type type = get_or (0 ∷ 70 ∷ 102 ∷ 46 ∷ 46 ∷ []) type 0

-- the first even byte after a key of 1 + length bytes: "padded so that its data start on an even offset of the node", which starts on an even byte
unfoldable pub after_key : ℕ → ℕ → ℕ
after_key at length = at + (1 + length) + (at + (1 + length)) % 2

module _ (img : List ℕ) where
  -- where the data starts of a leaf record that starts at this byte of the image
  abbrev pub data_at : ℕ → ℕ
  data_at at = after_key at (get_or img at 0)

  -- "data by type (first byte)"
  unfoldable pub type_at : ℕ → ℕ
  type_at at = get_or img (data_at at) 0

  -- where the record that starts at a byte ends: "An index record: 38 bytes of key and the child's number: 42"
  unfoldable pub record_end : ℕ → ℕ → ℕ
  record_end kind at = cond (ℕ_discrete kind leaf_kind) (data_at at + size_of_type (type_at at)) (at + 42)

  -- the record that starts at a byte, in a node of this kind
  pub record RecordRight (kind at : ℕ) : Type 0 where
    -- "name length (1, at most 31)"
    pub name_length : get_or img (at + 6) 0 ≤ 31
    pub key_length : get_or img at 0 ≡ key_length_of kind (get_or img (at + 6) 0)
    pub is_type : kind ≡ leaf_kind → (1 ≤ type_at at) × (type_at at ≤ 4)

  unfoldable pub dec_right : (kind at : ℕ) → Dec (RecordRight kind at)
  dec_right kind at =
      map_dec
      (λ ((a, b), c). record { name_length = a; key_length = b; is_type = c })
      (λ r. ((r.name_length, r.key_length), r.is_type))
      (Dec.and (Dec.and
      (dec_le (get_or img (at + 6) 0) 31)
      (ℕ_discrete (get_or img at 0) (key_length_of kind (get_or img (at + 6) 0))))
      (dec_imp (ℕ_discrete kind leaf_kind) (Dec.and (dec_le 1 (type_at at)) (dec_le (type_at at) 4))))

module _ (form : Form) (img : List ℕ) where
  -- "Record offsets are words from the end of the node backwards"
  unfoldable pub offset_word : ℕ → ℕ → ℕ
  offset_word n i = be16_at img (n * form.size + (form.size - 2 - 2 * i))

  -- where record i of the node n starts in the image, by its offset word
  abbrev pub word_at : ℕ → ℕ → ℕ
  word_at n i = n * form.size + offset_word n i

  -- the records of a node of this kind; the kind itself, the reserved bytes and that there is a record are judged as in every tree
  pub record CatalogRecords (kind n : ℕ) : Type 0 where
    pub few : count_of (layout_of form) img n ≤ max_records kind
    -- "Records lie side by side from 000E"
    pub first : word_at n 0 ≡ n * form.size + 14
    -- "The next record starts right after"; the free space starts where the last record ends
    pub next : (i : ℕ) → i < count_of (layout_of form) img n → word_at n (suc i) ≡ record_end img kind (word_at n i)
    pub right : (i : ℕ) → i < count_of (layout_of form) img n → RecordRight img kind (word_at n i)
    -- "No record reaches into its node's offset words": "There is one offset more than records, and it points to the free space."
    pub room : word_at n (count_of (layout_of form) img n) + 2 * suc (count_of (layout_of form) img n) ≤ n * form.size + form.size

  unfoldable pub dec_catalog_records : (kind n : ℕ) → Dec (CatalogRecords kind n)
  dec_catalog_records kind n =
      map_dec
      (λ ((((a, b), c), d), e). record { few = a; first = b; next = c; right = d; room = e })
      (λ r. ((((r.few, r.first), r.next), r.right), r.room))
      (Dec.and (Dec.and (Dec.and (Dec.and
      (dec_le (count_of (layout_of form) img n) (max_records kind))
      (ℕ_discrete (word_at n 0) (n * form.size + 14)))
      (dec_all (λ i. ℕ_discrete (word_at n (suc i)) (record_end img kind (word_at n i))) (count_of (layout_of form) img n)))
      (dec_all (λ i. dec_right img kind (word_at n i)) (count_of (layout_of form) img n)))
      (dec_le (word_at n (count_of (layout_of form) img n) + 2 * suc (count_of (layout_of form) img n)) (n * form.size + form.size)))
