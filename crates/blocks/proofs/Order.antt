-- The order of tests: what is answered where the one before it passes, and where it fails; and the number that is said of the catalog.
-- Assumes nothing.
use mathlib.Core.Path.{◌≡◌, refl, sym, ap, ◌∙◌}
use mathlib.Core.Logic.{◌≢◌}
use mathlib.Core.List.{List}
use Prim.Native.Nat.{ℕ}
use native.Mathlib.Omega.{arith}
use native.Mathlib.Decide.{ℕ_discrete}
use Rattle.btree.specs.declared.Place.{Place}
use Rattle.btree.specs.Places.{image_start}
use Rattle.btree.proofs.Decisions.{cond_yes, cond_no}
use Rattle.extent_keys.specs.Key.{Lawful}
use Rattle.catalog_keys.specs.Key.{Key}
use Rattle.catalog.specs.declared.answers.Answer.{Answer}
use Rattle.catalog.specs.declared.answers.Answer.TheVariants as answer
use Rattle.catalog.specs.declared.answers.Lookup.{Lookup}
use Rattle.catalog.specs.Reader.{looked_up}
use Rattle.catalog.specs.Reader as catalog
use Rattle.catalog.proofs.Laws.{lookup-long, lookup-refused, lookup-never}
use Rattle.extents.specs.Reader.{checked}
use Rattle.coverings.specs.declared.answers.Source.TheVariants.{Catalog, Extents}
use Rattle.coverings.specs.declared.answers.Mapping.{Mapping}
use Rattle.coverings.specs.declared.answers.Mapping.TheVariants.{Refused}
use Rattle.coverings.specs.Covered.{refused_by}
use Rattle.coverings.proofs.Order.{after-refused, entry-refused}
use Rattle.blocks.specs.Blocks.{Asked, dec_asked, by_answer, block_of}
use Rattle.blocks.specs.Work.{catalog_number}

-- a fault of the extents image, whatever the catalog answers
pub answer-refused : (cat ext : List ℕ) (lent fork block : ℕ) → Lawful fork → (checked ext lent).number ≢ 0 → (a : Answer) → ((number : ℕ) (place : Place) → a ≢ answer.Refused number place)
    → by_answer cat ext lent fork block a ≡ refused_by Extents (checked ext lent)
answer-refused cat ext lent fork block l z (answer.Found p e) n = entry-refused ext lent cat fork block l z p e
answer-refused cat ext lent fork block l z (answer.Absent m) n = after-refused ext lent _ z
answer-refused cat ext lent fork block l z (answer.Refused number place) n = absurd (n number place refl)

module _ (cat ext : List ℕ) (cat_lent ext_lent : ℕ) (k : Key) (fork block : ℕ) where
  abbrev said : Mapping
  said = block_of cat ext cat_lent ext_lent k fork block

  pub block-unasked : (Asked k fork → ⊥) → said ≡ Refused Catalog 11 image_start
  unfolding block_of
  block-unasked n = cond_no (dec_asked k fork) _ _ n

  pub block-asked : Asked k fork → said ≡ by_answer cat ext ext_lent fork block (looked_up cat k cat_lent).answer
  unfolding block_of
  block-asked a = cond_yes (dec_asked k fork) _ _ a

  -- the catalog's lookup judges the name by itself
  pub block-lawful : Lawful fork → by_answer cat ext ext_lent fork block (looked_up cat k cat_lent).answer ≡ said
  block-lawful l = go (dec_asked k fork)
    where
      go : Dec (Asked k fork) → by_answer cat ext ext_lent fork block (looked_up cat k cat_lent).answer ≡ said
      go (yes a) = sym (block-asked a)
      go (no n) = ap (λ (r : Lookup). by_answer cat ext ext_lent fork block r.answer) (lookup-long cat cat_lent k (λ s. n (record { lawful = l; short = s }))) ∙ sym (block-unasked n)

  pub block_refused : Asked k fork → (catalog.checked cat cat_lent).number ≢ 0 → said ≡ refused_by Catalog (catalog.checked cat cat_lent)
  block_refused a z = block-asked a ∙ ap (λ (r : Lookup). by_answer cat ext ext_lent fork block r.answer) (lookup-refused cat cat_lent k a.short z)

-- the number that is said of the catalog
module _ (cat : List ℕ) (lent : ℕ) (k : Key) (fork : ℕ) where
  pub number-unasked : (Asked k fork → ⊥) → catalog_number cat lent k fork ≡ 11
  unfolding catalog_number
  number-unasked n = cond_no (dec_asked k fork) _ _ n

  pub number-asked : Asked k fork → catalog_number cat lent k fork ≡ (catalog.checked cat lent).number
  unfolding catalog_number
  number-asked a = cond_yes (dec_asked k fork) _ _ a

  -- it is 0 exactly where the lookup does not refuse
  pub number-sound : Lawful fork → ((number : ℕ) (place : Place) → (looked_up cat k lent).answer ≢ answer.Refused number place) → catalog_number cat lent k fork ≡ 0
  number-sound l n = go (dec_asked k fork) (ℕ_discrete (catalog.checked cat lent).number 0)
    where
      go : Dec (Asked k fork) → Dec ((catalog.checked cat lent).number ≡ 0) → catalog_number cat lent k fork ≡ 0
      go (no a) d = absurd (n _ _ (ap (λ (r : Lookup). r.answer) (lookup-long cat lent k (λ s. a (record { lawful = l; short = s })))))
      go (yes a) (no z) = absurd (n _ _ (ap (λ (r : Lookup). r.answer) (lookup-refused cat lent k a.short z)))
      go (yes a) (yes z) = number-asked a ∙ z

  pub number-fault : (number : ℕ) (place : Place) → (looked_up cat k lent).answer ≡ answer.Refused number place → catalog_number cat lent k fork ≢ 0
  number-fault number place e w = go (dec_asked k fork)
    where
      go : Dec (Asked k fork) → ⊥
      go (no a) = let q = number-unasked a in omega arith
      go (yes a) = lookup-never cat lent k a.short (sym (number-asked a) ∙ w) number place e
