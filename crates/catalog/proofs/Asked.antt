-- A key that a catalog is asked for, and its number.
-- Assumes nothing.
use mathlib.Core.Path.{◌≡◌, refl, sym, ap, subst, ◌∙◌}
use mathlib.Core.Logic.{inl}
use mathlib.Core.Bool.{Bool}
use mathlib.Core.List.{List}
use Prim.Native.Nat.{ℕ}
use native.Mathlib.Decide.{dec_le}
use lib.ListN.{length}
use Rattle.btree.specs.declared.Lookup.{Lookup}
use Rattle.btree.specs.declared.Salvage.{Salvage}
use Rattle.btree.specs.Decide.{says}
use Rattle.btree.specs.Numbers as numbers
use Rattle.frame.specs.declared.form.Form.{Form}
use Rattle.frame.specs.Form.{catalog, Fair}
use Rattle.frame.proofs.Forms.{fair}
use Rattle.extent_keys.specs.declared.key.SortKey.{SortKey}
use Rattle.catalog_keys.specs.Key.{Key, longest_name, key_at}
use Rattle.catalog_keys.proofs.Order.{rank_same}
use Rattle.catalog_keys.proofs.Reading.{key-short}
use Rattle.formats.specs.Asked.{asked_rank}
use Rattle.reader.specs.Reader as reader
use Rattle.reader.proofs.Demands.{Means, lookup-by}
use Rattle.reader.proofs.Matches.{salvage-by}
use Rattle.catalog.specs.Asked.{of_key}
use Rattle.catalog.specs.Answers.{plain_answer}
use Rattle.catalog.specs.Reader.{Leaves, looked_up, lookup_reply, found_part, salvaged, seen_part}
use Rattle.catalog.proofs.Entries.{plain-answer, plain-seen}

-- the form has sizes that code goes by
pub catalog-fair : (form : Form) → form ≡ catalog → Fair form
catalog-fair form e = rw e (fair catalog (inl (refl, refl)))

-- a key stands at a byte of the image exactly where its number does
pub means : (img : List ℕ) (k : Key) → Means catalog img (of_key k)
means img k short at = rank_same (key_at img at) k (key-short img at) short

-- what is answered as the code asks is what is answered of the key
module _ (form : Form) (f : form ≡ catalog) (img : List ℕ) (k : Key) (lawful : Bool) (l : lawful ≡ says (dec_le (length k.name) longest_name)) (key : SortKey) (o : key.owner ≡ k.parent) where
  module _ (lent : ℕ) where
    by-asked : reader.looked_up_by form img lawful (asked_rank form key k.name) lent ≡ reader.looked_up catalog img (of_key k) lent
    by-asked = rw (f, l, o) (sym (lookup-by catalog img (of_key k) lent))

    pub asked-lookup : (r : Lookup) → r ≡ reader.looked_up_by form img lawful (asked_rank form key k.name) lent → r ≡ reader.looked_up catalog img (of_key k) lent
    asked-lookup r e = e ∙ by-asked

    asked-answer : (reader.looked_up_by form img lawful (asked_rank form key k.name) lent).answer ≡ plain_answer (looked_up img k lent).answer
    asked-answer = ap (λ (x : Lookup). x.answer) by-asked ∙ sym (plain-answer img _)

    pub found_part-asked : reader.found_part form img (reader.looked_up_by form img lawful (asked_rank form key k.name) lent).answer ≡ found_part img (looked_up img k lent).answer
    found_part-asked = rw (asked-answer, f)

    pub found-leaves : (entry exit : List ℕ) → reader.Leaves form img (numbers.lookup_reply (reader.looked_up_by form img lawful (asked_rank form key k.name) lent).answer).number entry exit
        → Leaves img (lookup_reply (looked_up img k lent).answer).number entry exit
    found-leaves entry exit h = subst (λ (x : Form). reader.Leaves x img (lookup_reply (looked_up img k lent).answer).number entry exit) f (rw (← asked-answer) h)

  seen-asked : reader.salvaged_by form img lawful (asked_rank form key k.name) ≡ reader.salvaged catalog img (of_key k)
  seen-asked = rw (f, l, o) (sym (salvage-by catalog img (of_key k)))

  pub asked-salvage : (r : Salvage) → r ≡ reader.salvaged_by form img lawful (asked_rank form key k.name) → r ≡ reader.salvaged catalog img (of_key k)
  asked-salvage r e = e ∙ seen-asked

  pub seen-part : reader.seen_part form img (reader.salvaged_by form img lawful (asked_rank form key k.name)) ≡ seen_part img (salvaged img k)
  seen-part = rw (seen-asked ∙ sym (plain-seen img _), f)
