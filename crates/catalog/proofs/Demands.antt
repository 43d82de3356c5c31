-- A lookup of a catalog keeps demand 3, and salvage says what it says of every form, each with the entry.
-- Assumes nothing.
use mathlib.Core.Path.{◌≡◌, refl, sym, ap, subst, ◌∙◌}
use mathlib.Core.List.{List}
use Prim.Native.Nat.{ℕ, ◌+◌, ◌≤◌}
use lib.ListN.{length}
use Rattle.btree.specs.declared.Place.{Place}
use Rattle.btree.specs.declared.Lookup as tree_lookup
use Rattle.btree.specs.declared.Salvage as tree_seen
use Rattle.btree.specs.Numbers.{lookup_reply}
use Rattle.frame.specs.Form.{catalog}
use Rattle.catalog_keys.specs.Key.{Key, rank}
use Rattle.reader.specs.Demands as demands
use Rattle.reader.specs.Salvage as salvage
use Rattle.reader.proofs.Parts.{listed-inside}
use Rattle.catalog_entries.specs.declared.Entry.{Entry}
use Rattle.catalog.specs.declared.answers.Answer.TheVariants.{Found}
use Rattle.catalog.specs.Asked.{of_key}
use Rattle.catalog.specs.Answers.{entry_of, answered, answered_as, seen_as, plain_answer}
use Rattle.catalog.specs.Reader.{Sound, data_part}
use Rattle.catalog.specs.Types.{FourTypes}
use Rattle.catalog.specs.Demands.{SoundAnswer, LookupSays, SalvageSays}
use Rattle.catalog.proofs.Entries.{plain-answer, plain-lookup, plain-seen, found-entry, seen_entry}
use Rattle.catalog.proofs.Asked.{catalog-fair}
use Rattle.catalog.proofs.Types.{listed-type}
use Rattle.catalog.proofs.Compared.{four-in-path, four-each}

module _ (img : List ℕ) (k : Key) where
  module _ (l : tree_lookup.Lookup) where
    sound-answer : Sound img → demands.SoundAnswer catalog img (of_key k) l → SoundAnswer img k (answered img l)
    sound-answer s a =
        record {
          answer = subst (λ (x : tree_lookup.Lookup). demands.SoundAnswer catalog img (of_key k) x) (sym (plain-lookup img l)) a;
          entry = λ p e w. found-entry img p e l.answer w;
          types = types;
          inside = inside;
          four = four-in-path img s (rank k);
          few = rw a.counted (four-each img s (rank k));
        }
      where
        types : (p : Place) (e : Entry) → answered_as img l.answer ≡ Found p e → FourTypes img p e
        types p e w =
            let (x, m, _, o) = (a.found p).0 (sym (plain-answer img l.answer) ∙ ap plain_answer w) in
            rw (found-entry img p e l.answer w) (subst (λ (q : Place). FourTypes img q (entry_of img q)) o (listed-type img s x m))

        inside : (p : Place) (e : Entry) → answered_as img l.answer ≡ Found p e → (data_part img p).at + (data_part img p).size ≤ length img
        inside p e w =
            let (x, m, _, o) = (a.found p).0 (sym (plain-answer img l.answer) ∙ ap plain_answer w) in
            subst (λ (q : Place). (data_part img q).at + (data_part img q).size ≤ length img) o (listed-inside catalog (catalog-fair catalog refl) img s x m)

    -- what is said of every form, and that
    pub lookup-says : (lent : ℕ) → demands.LookupSays catalog img (of_key k) lent l → LookupSays img k lent (answered img l)
    lookup-says lent d =
        record {
          of_sound = λ s h e. sound-answer s (d.of_sound s h e);
          of_long = λ n. ap (answered img) (d.of_unlawful n);
          of_few = λ h t. ap (answered img) (d.of_few h t);
          of_unsound = λ h t n. ap (answered img) (d.of_unsound h t n);
          of_enough = λ h w. d.of_enough h (sym (ap (λ a. (lookup_reply a).number) (plain-answer img l.answer)) ∙ w);
        }

  pub salvage-says : (s : tree_seen.Salvage) → salvage.SalvageSays catalog img (of_key k) s → SalvageSays img k (seen_as img s)
  salvage-says s d =
      record {
        answer = subst (λ (x : tree_seen.Salvage). salvage.SalvageSays catalog img (of_key k) x) (sym (plain-seen img s)) d;
        entry = λ p e w. seen_entry img p e s w;
      }
