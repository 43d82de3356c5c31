-- What the calls for an edition and a node size promise: 25 for a form that is not listed, and else what is promised of an image of that form.
-- Assumes nothing.
use mathlib.Core.Path.{◌≡◌, sym, ap, ◌∙◌}
use mathlib.Core.List.{List}
use Prim.Native.Nat.{ℕ}
use native.Mathlib.Omega.{arith}
use Rattle.btree.specs.declared.Answer.TheVariants.{Found}
use Rattle.btree.specs.declared.Lookup.{Lookup}
use Rattle.btree.specs.declared.Place.{Place}
use Rattle.btree.specs.declared.Salvage.{Salvage}
use Rattle.btree.specs.declared.Salvage.TheVariants.{Seen, Refused}
use Rattle.btree.specs.declared.Verdict.{Verdict}
use Rattle.btree.specs.Places.{image_start}
use Rattle.btree.specs.Numbers.{lookup_reply}
use Rattle.btree.specs.Search.{refused}
use Rattle.btree.specs.Walk.{fails}
use Rattle.btree.proofs.Decisions.{cond_yes, cond_no}
use Rattle.btree.proofs.Checked.{checked-not}
use Rattle.frame.specs.declared.form.Form.{Form}
use Rattle.frame.specs.Form.{Listed, dec_listed, layout_of}
use Rattle.extent_keys.specs.declared.key.Key.{Key}
use Rattle.image.proofs.Words.{Bytes}
use Rattle.extent_keys.proofs.Order.{InRange, short-start}
use Rattle.formats.specs.Format.{format_of}
use Rattle.reader.specs.Reader as reader
use Rattle.reader.specs.Demands as demands
use Rattle.reader.specs.Salvage as salvage
use Rattle.editions.specs.Asked.{of_key}
use Rattle.editions.specs.Editions.{checked_as, looked_up_as, salvaged_as, CheckSays, LookupSays, SalvageSays}

module _ (form : Form) (img : List ℕ) where
  -- what is answered of a form that is listed, and of one that is not
  module _ (l : Listed form) where
    pub check-listed : (lent : ℕ) → checked_as form img lent ≡ reader.checked form img lent
    unfolding checked_as
    check-listed lent = cond_yes (dec_listed form) _ _ l

    pub lookup-listed : (k : Key) (lent : ℕ) → looked_up_as form img k lent ≡ reader.looked_up form img (of_key form k) lent
    unfolding looked_up_as
    lookup-listed k lent = cond_yes (dec_listed form) _ _ l

    pub salvage-listed : (k : Key) → salvaged_as form img k ≡ reader.salvaged form img (of_key form k)
    unfolding salvaged_as
    salvage-listed k = cond_yes (dec_listed form) _ _ l

    pub says-check : (lent : ℕ) (r : Verdict) → r ≡ reader.checked form img lent → reader.CheckSays form img lent r → CheckSays form img lent r
    says-check lent r e s =
        record {
          of_unlisted = λ n. absurd (n l);
          of_listed = λ _. s;
          only_unlisted = λ z _. checked-not (layout_of form) img (format_of form) lent 25 (omega arith) (λ q. omega arith) (ap (λ (v : Verdict). v.number) (sym e) ∙ z);
        }

    module _ (b : Bytes img) (k : Key) (range : InRange k) where
      pub says-lookup : (lent : ℕ) (r : Lookup) → ((lookup_reply r.answer).number ≡ 25 → ⊥) → demands.LookupSays form img (of_key form k) lent r → LookupSays form img k lent r
      says-lookup lent r n s =
          record {
            of_unlisted = λ u. absurd (u l);
            of_listed = λ _. s;
            long_start = λ _ e long lawful sound enough. (s.of_sound sound lawful enough).absent.1 (λ x m h. long (short-start form img b k range _ e h));
            only_unlisted = λ z _. n z;
          }

      pub says-salvage : (r : Salvage) → (r ≡ Refused 25 image_start → ⊥) → salvage.SalvageSays form img (of_key form k) r → SalvageSays form img k r
      says-salvage r n s =
          record {
            of_unlisted = λ u. absurd (u l);
            of_listed = λ _. s;
            long_start = λ _ e long w. (s.not_seen w).1 (λ m i h. long (short-start form img b k range _ e h.is_key));
            only_unlisted = λ z _. n z;
          }

  module _ (n : Listed form → ⊥) where
    pub check-unlisted : (lent : ℕ) → checked_as form img lent ≡ fails 25 image_start
    unfolding checked_as
    check-unlisted lent = cond_no (dec_listed form) _ _ n

    pub lookup-unlisted : (k : Key) (lent : ℕ) → looked_up_as form img k lent ≡ refused 25 image_start
    unfolding looked_up_as
    lookup-unlisted k lent = cond_no (dec_listed form) _ _ n

    pub salvage-unlisted : (k : Key) → salvaged_as form img k ≡ Refused 25 image_start
    unfolding salvaged_as
    salvage-unlisted k = cond_no (dec_listed form) _ _ n

    pub refuses-check : (lent : ℕ) (r : Verdict) → r ≡ fails 25 image_start → CheckSays form img lent r
    refuses-check lent r e = record { of_unlisted = λ _. e; of_listed = λ l. absurd (n l); only_unlisted = λ _ l. n l }

    pub refuses-lookup : (k : Key) (lent : ℕ) (r : Lookup) → r ≡ refused 25 image_start → LookupSays form img k lent r
    refuses-lookup k lent r e = record { of_unlisted = λ _. e; of_listed = λ l. absurd (n l); long_start = λ l. absurd (n l); only_unlisted = λ _ l. n l }

    pub refuses-salvage : (k : Key) (r : Salvage) → r ≡ Refused 25 image_start → SalvageSays form img k r
    refuses-salvage k r e = record { of_unlisted = λ _. e; of_listed = λ l. absurd (n l); long_start = λ l. absurd (n l); only_unlisted = λ _ l. n l }

  -- nothing is found or seen but in an image of a listed form
  pub found-listed : (k : Key) (lent : ℕ) (p : Place) → (looked_up_as form img k lent).answer ≡ Found p → Listed form
  found-listed k lent p e = go (dec_listed form)
    where
      go : Dec (Listed form) → Listed form
      go (yes l) = l
      go (no n) = let w = ap (λ (l : Lookup). l.answer) (lookup-unlisted n k lent) in let z : ◌≡◌ {A = ℕ} 0 1 = cc in absurd (omega arith)

  pub seen-listed : (k : Key) (p : Place) → salvaged_as form img k ≡ Seen p → Listed form
  seen-listed k p e = go (dec_listed form)
    where
      go : Dec (Listed form) → Listed form
      go (yes l) = l
      go (no n) = let w = salvage-unlisted n k in let z : ◌≡◌ {A = ℕ} 0 1 = cc in absurd (omega arith)
