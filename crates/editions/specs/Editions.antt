-- W-211: "The caller says which edition and node size are meant": what is answered, and what it says.
-- Assumes nothing.
use Rattle.std.specs.Prelude.{◌≡◌, List, ℕ, ◌≤◌}
use Rattle.btree.specs.declared.Answer.TheVariants.{Absent}
use Rattle.btree.specs.declared.Lookup.{Lookup}
use Rattle.btree.specs.declared.Salvage.{Salvage}
use Rattle.btree.specs.declared.Salvage.TheVariants.{NotSeen, Refused}
use Rattle.btree.specs.declared.Verdict.{Verdict}
use Rattle.btree.specs.Places.{image_start}
use Rattle.btree.specs.Decide.{cond}
use Rattle.btree.specs.Numbers.{lookup_reply}
use Rattle.btree.specs.Search.{refused}
use Rattle.btree.specs.Walk.{fails}
use Rattle.frame.specs.declared.form.Form.{Form}
use Rattle.frame.specs.Form.{Listed, dec_listed}
use Rattle.extent_keys.specs.declared.key.Key.{Key}
use Rattle.extent_keys.specs.Key.{Lawful, IsShort}
use Rattle.reader.specs.Reader as reader
use Rattle.reader.specs.Demands as demands
use Rattle.reader.specs.Salvage as salvage
use Rattle.editions.specs.Asked.{of_key}

module _ (form : Form) (img : List ℕ) where
  -- "a size not listed, or not 512 for HFS, is 25, tested first"
  unfoldable pub checked_as : ℕ → Verdict
  checked_as lent = cond (dec_listed form) (reader.checked form img lent) (fails 25 image_start)

  unfoldable pub looked_up_as : Key → ℕ → Lookup
  looked_up_as k lent = cond (dec_listed form) (reader.looked_up form img (of_key form k) lent) (refused 25 image_start)

  unfoldable pub salvaged_as : Key → Salvage
  salvaged_as k = cond (dec_listed form) (reader.salvaged form img (of_key form k)) (Refused 25 image_start)

  -- "Demands 2 and 3 hold for each edition at each listed size", and 25 is said of no listed form
  pub record CheckSays (lent : ℕ) (r : Verdict) : Type 0 where
    pub of_unlisted : (Listed form → ⊥) → r ≡ fails 25 image_start
    pub of_listed : Listed form → reader.CheckSays form img lent r
    pub only_unlisted : r.number ≡ 25 → Listed form → ⊥

  pub record LookupSays (k : Key) (lent : ℕ) (r : Lookup) : Type 0 where
    pub of_unlisted : (Listed form → ⊥) → r ≡ refused 25 image_start
    pub of_listed : Listed form → demands.LookupSays form img (of_key form k) lent r
    -- "A start block above 65,535 asked of an HFS image is simply not there"
    pub long_start : Listed form → form.edition ≡ 0 → (IsShort k → ⊥) → Lawful k.fork → reader.Sound form img → reader.needed form img ≤ lent → (n : ℕ) × (r.answer ≡ Absent n)
    pub only_unlisted : (lookup_reply r.answer).number ≡ 25 → Listed form → ⊥

  pub record SalvageSays (k : Key) (r : Salvage) : Type 0 where
    pub of_unlisted : (Listed form → ⊥) → r ≡ Refused 25 image_start
    pub of_listed : Listed form → salvage.SalvageSays form img (of_key form k) r
    pub long_start : Listed form → form.edition ≡ 0 → (IsShort k → ⊥) → salvage.Searched form img (of_key form k) → r ≡ NotSeen
    pub only_unlisted : r ≡ Refused 25 image_start → Listed form → ⊥
