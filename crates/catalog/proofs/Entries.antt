-- The answers of a catalog are those of every tree, with the entry.
-- Assumes nothing.
use mathlib.Core.Path.{◌≡◌, refl, ap}
use mathlib.Core.List.{List}
use Prim.Native.Nat.{ℕ}
use Rattle.btree.specs.declared.Place.{Place}
use Rattle.btree.specs.declared.Answer as tree
use Rattle.btree.specs.declared.Answer.TheVariants as tree_answer
use Rattle.btree.specs.declared.Lookup as tree_lookup
use Rattle.btree.specs.declared.Salvage as tree_seen
use Rattle.btree.specs.declared.Salvage.TheVariants as tree_salvage
use Rattle.catalog_entries.specs.declared.Entry.{Entry}
use Rattle.catalog.specs.declared.answers.Answer.TheVariants.{Found}
use Rattle.catalog.specs.declared.answers.Salvage.TheVariants.{Seen}
use Rattle.catalog.specs.Answers.{entry_of, answered_as, answered, seen_as, plain_answer, plain, plain_seen}

module _ (img : List ℕ) where
  pub plain-answer : (a : tree.Answer) → plain_answer (answered_as img a) ≡ a
  plain-answer (tree_answer.Found p) = refl
  plain-answer (tree_answer.Absent n) = refl
  plain-answer (tree_answer.Refused number place) = refl

  pub plain-lookup : (l : tree_lookup.Lookup) → plain (answered img l) ≡ l
  plain-lookup l = ap (λ (a : tree.Answer). record { answer = a; path = l.path; compared = l.compared }) (plain-answer l.answer)

  pub plain-seen : (s : tree_seen.Salvage) → plain_seen (seen_as img s) ≡ s
  plain-seen (tree_salvage.Seen p) = refl
  plain-seen tree_salvage.NotSeen = refl
  plain-seen (tree_salvage.Refused number place) = refl

  module _ (p : Place) (e : Entry) where
    pub found-entry : (a : tree.Answer) → answered_as img a ≡ Found p e → e ≡ entry_of img p
    found-entry (tree_answer.Found q) w = cc
    found-entry (tree_answer.Absent n) w = cc
    found-entry (tree_answer.Refused number place) w = cc

    pub seen_entry : (s : tree_seen.Salvage) → seen_as img s ≡ Seen p e → e ≡ entry_of img p
    seen_entry (tree_salvage.Seen q) w = cc
    seen_entry tree_salvage.NotSeen w = cc
    seen_entry (tree_salvage.Refused number place) w = cc
