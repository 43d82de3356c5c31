-- W-203: many keys, one check: what is answered, the results, and demand 3 in the words of the leaf records.
-- Assumes nothing.
use Rattle.std.specs.Prelude.{◌≡◌, ◌≢◌, ◌↔◌, List, ℕ, ◌+◌, ◌≤◌, ◌<◌, length, get_or, drop}
use Rattle.std.proofs.Math.Decide.{dec_lt, dec_le}
use Rattle.btree.specs.declared.Verdict.{Verdict}
use Rattle.btree.specs.Places.{image_start}
use Rattle.btree.specs.Lists.{◌∈◌}
use Rattle.btree.specs.Decide.{cond, says, if_zero}
use Rattle.btree.specs.Tree.{Rec}
use Rattle.btree.specs.Walk.{fails, unless}
use Rattle.btree.specs.Search.{place_of}
use Rattle.extent_keys.specs.Key.{unpacked, key_limit, IsKey}
use Rattle.search.specs.Rows.{result_of, filled}
use Rattle.extents.specs.Reader.{checked, CheckSays, leaf_list, looked_up, data_part}
use Rattle.extents.specs.Demands.{HasKey}

-- "Each result says what the single lookup says"; 1 for a number "which is 2 to the 56 or more", as no single lookup is asked by it
unfoldable pub result : List ℕ → ℕ → ℕ → ℕ
result img lent number = cond (dec_lt number key_limit) (result_of img (looked_up img (unpacked number) lent).answer) 1

module _ (img keys results : List ℕ) (lent : ℕ) where
  -- "A result row shorter than the key row is refused as 15, tested before the check"; "numbers from 15 up have place 0"
  unfoldable pub many_answer : Verdict
  many_answer = unless (says (dec_le (length keys) (length results))) (fails 15 image_start) (checked img lent)

  -- "on 15 or an unsound image no result is written", nor on 16
  unfoldable pub many_results : List ℕ
  many_results = if_zero many_answer.number (filled (result img lent) keys results) results

-- what the result r of the packed number says of a sound image
pub record ResultSays (img : List ℕ) (number r : ℕ) : Type 0 where
  -- "1 for a key whose fork byte is wrong or which is 2 to the 56 or more", and for no other
  pub no_key : (r ≡ 1) ↔ (IsKey number → ⊥)
  -- found exactly when one of the leaf records has the key: "the byte place of the 12 data bytes"
  pub found : IsKey number → (p : ℕ) →
      ((r ≡ p) × (2 ≤ p)) ↔ ((x : Rec) × (x ∈ leaf_list img) × (HasKey img (unpacked number) x) × ((data_part img (place_of x)).at ≡ p))
  -- and the image has these 12 bytes
  pub inside : 2 ≤ r → r + 12 ≤ length img
  -- "0 for absent": exactly when none has it
  pub absent : IsKey number → (r ≡ 0) ↔ ((x : Rec) → x ∈ leaf_list img → HasKey img (unpacked number) x → ⊥)

-- what a lookup of many keys says of any image, where so many bytes are lent
pub record ManySays (img keys entry exit : List ℕ) (lent : ℕ) (r : Verdict) : Type 0 where
  -- "A result row shorter than the key row is refused as 15", and no other
  pub short : (r ≡ fails 15 image_start) ↔ (length entry < length keys)
  -- "The call answers 0, 15 or the check's number"
  pub of_others : length keys ≤ length entry → CheckSays img lent r
  -- "on 15 or an unsound image no result is written", nor on 16
  pub unwritten : r.number ≢ 0 → exit ≡ entry
  -- "Each result says what the single lookup says; demand 3 is read so."
  pub each : r.number ≡ 0 → (i : ℕ) → i < length keys → ResultSays img (get_or keys i 0) (get_or exit i 0)
  -- "Places beyond the keys stay."
  pub beyond : drop (length keys) exit ≡ drop (length keys) entry
  pub row_length : length exit ≡ length entry
