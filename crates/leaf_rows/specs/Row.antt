-- W-209: "a lent row of 20-byte leaf records, strictly ascending".
-- Assumes nothing.
use Rattle.std.specs.Prelude.{◌≡◌, List, ℕ, suc, ◌-◌, ◌*◌, ◌%◌, ◌<◌, length, take, drop}
use Rattle.std.proofs.Math.Logic.Dec
use Rattle.std.proofs.Math.Decide.{ℕ_discrete, dec_lt}
use Rattle.shape.specs.Shape.{records_in}
use Rattle.btree.specs.Decide.{map_dec, dec_all}
use Rattle.btree.specs.Lists.{gather}
use Rattle.btree.specs.Places.{image_offset}
use Rattle.btree.specs.Search.{place_of, leaf_list}
use Rattle.btree.specs.Tree.{Rec}
use Rattle.frame.specs.Form.{hfs, layout_of}
use Rattle.extent_nodes.specs.Records.{KeyLaw, dec_key_law}
use Rattle.formats.specs.Format.{rank_at, view}

-- the keys of the first n records: none "with a wrong length or fork byte", and none "out of order"
pub record KeysRight (row : List ℕ) (n : ℕ) : Type 0 where
  pub lawful : (q : ℕ) → q < n → KeyLaw hfs row (q * 20)
  pub ascend : (q : ℕ) → q < n - 1 → rank_at hfs row (q * 20) < rank_at hfs row (suc q * 20)

-- what is not "a row not of whole records, or with a wrong length or fork byte or keys out of order"
pub record RowLaw (row : List ℕ) : Type 0 where
  pub whole : length row % 20 ≡ 0
  pub keys : KeysRight row (records_in row)

unfoldable pub dec_keys_right : (row : List ℕ) (n : ℕ) → Dec (KeysRight row n)
dec_keys_right row n =
    map_dec (λ (a, b). record { lawful = a; ascend = b }) (λ k. (k.lawful, k.ascend))
    (Dec.and
    (dec_all (λ q. dec_key_law hfs row (q * 20)) n)
    (dec_all (λ q. dec_lt (rank_at hfs row (q * 20)) (rank_at hfs row (suc q * 20))) (n - 1)))

unfoldable pub dec_row_law : (row : List ℕ) → Dec (RowLaw row)
dec_row_law row =
    map_dec (λ (a, b). record { whole = a; keys = b }) (λ l. (l.whole, l.keys))
    (Dec.and (ℕ_discrete (length row % 20) 0) (dec_keys_right row (records_in row)))

-- the 20 bytes of a leaf record of an image
abbrev pub bytes_of : List ℕ → Rec → List ℕ
bytes_of image x = take 20 (drop (image_offset (layout_of hfs) (place_of x)) image)

-- the leaf records of an image along the links, as a row
abbrev pub leaf_row : List ℕ → List ℕ
leaf_row image = gather (bytes_of image) (leaf_list (view hfs image))
