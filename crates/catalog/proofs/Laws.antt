-- What a lookup has to do with the check: the laws by which crates above use the two definitions.
-- Assumes nothing.
use mathlib.Core.Path.{◌≡◌, refl, sym, ap, subst, ◌∙◌}
use mathlib.Core.Logic.{◌≢◌}
use mathlib.Core.List.Memᴰ
use mathlib.Core.List.{List}
use Prim.Native.Nat.{ℕ}
use native.Mathlib.Decide.{ℕ_discrete}
use Rattle.btree.specs.declared.Lookup as tree_lookup
use Rattle.btree.specs.declared.Place.{Place}
use Rattle.btree.specs.Places.{image_start}
use Rattle.btree.specs.Lists.{◌∈◌}
use Rattle.btree.specs.Search.{answer_of}
use Rattle.btree.specs.Work.{sound_numbers}
use Rattle.btree.proofs.Answers.{answer-number, descent-answers}
use Rattle.btree.proofs.Checked.{check-says}
use Rattle.btree.proofs.Work.{left-untouched, left-same, leaves}
use Rattle.frame.specs.Form.{catalog, layout_of, Fair}
use Rattle.frame.proofs.Forms.{fits}
use Rattle.catalog_keys.specs.Key.{Key, IsShort, rank}
use Rattle.formats.specs.Format.{format_of}
use Rattle.reader.specs.Reader as reader
use Rattle.reader.proofs.Demands as demands
use Rattle.catalog.specs.declared.answers.Answer.TheVariants.{Refused}
use Rattle.catalog.specs.declared.answers.Lookup.{Lookup}
use Rattle.catalog.specs.Asked.{of_key}
use Rattle.catalog.specs.Answers.{answered, answered_as, plain_answer, refused}
use Rattle.catalog.specs.Reader.{view, checked, CheckSays, Leaves, looked_up, lookup_reply}
use Rattle.catalog.specs.Demands.{LookupSays}
use Rattle.catalog.proofs.Asked.{catalog-fair, means}
use Rattle.catalog.proofs.Entries.{plain-answer}
use Rattle.catalog.proofs.Demands.{lookup-says}

-- 11 leaves the working bytes as they were
pub left-11 : (img work : List ℕ) → Leaves img 11 work work
left-11 img work = leaves (layout_of catalog) img (format_of catalog) 11 work work (sym (left-untouched (layout_of catalog) img (format_of catalog) 11 work (Memᴰ.tail (Memᴰ.head refl))))

module _ (img : List ℕ) (lent : ℕ) where
  abbrev fair : Fair catalog
  fair = catalog-fair catalog refl

  pub checked-says : CheckSays img lent (checked img lent)
  checked-says = check-says (layout_of catalog) img (format_of catalog) lent (fits catalog fair) (checked img lent) refl

  module _ (k : Key) where
    pub looked-says : LookupSays img k lent (looked_up img k lent)
    looked-says = lookup-says img k (reader.looked_up catalog img (of_key k) lent) lent (demands.lookup-says catalog fair img (of_key k) lent (means img k))

    pub lookup-long : (IsShort k → ⊥) → looked_up img k lent ≡ refused 11 image_start
    lookup-long n = looked-says.of_long n

    module _ (short : IsShort k) where
      -- refused as the check refuses
      pub lookup-refused : (checked img lent).number ≢ 0 → looked_up img k lent ≡ refused (checked img lent).number (checked img lent).place
      lookup-refused z = ap (answered img) (demands.lookup-refused catalog fair img (of_key k) lent short z)

      module _ (z : (checked img lent).number ≡ 0) where
        descends : (looked_up img k lent).answer ≡ answered_as img (answer_of (view img) (rank k))
        descends = ap (λ (l : tree_lookup.Lookup). answered_as img l.answer) (demands.lookup-answers catalog fair img (of_key k) lent short z)

        -- and no other
        pub lookup-never : (number : ℕ) (place : Place) → (looked_up img k lent).answer ≢ Refused number place
        lookup-never number place e =
            descent-answers (view img) (rank k) number place (sym (plain-answer img (answer_of (view img) (rank k))) ∙ ap plain_answer (sym descends ∙ e))

        looked-number : (lookup_reply (looked_up img k lent).answer).number ∈ sound_numbers
        looked-number = rw (descends, plain-answer img (answer_of (view img) (rank k))) (answer-number (view img) (rank k))

      -- a lookup leaves in the working bytes what the check does
      pub lookup-left : (entry exit : List ℕ) → Leaves img (lookup_reply (looked_up img k lent).answer).number entry exit → Leaves img (checked img lent).number entry exit
      lookup-left entry exit w = go (ℕ_discrete (checked img lent).number 0)
        where
          go : Dec ((checked img lent).number ≡ 0) → Leaves img (checked img lent).number entry exit
          go (no z) = subst (λ (l : Lookup). Leaves img (lookup_reply l.answer).number entry exit) (lookup-refused z) w
          go (yes z) =
              rw z (leaves (layout_of catalog) img (format_of catalog) 0 entry exit
              (w.exactly ∙ sym (left-same (layout_of catalog) img (format_of catalog) _ entry (looked-number z))))
