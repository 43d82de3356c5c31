-- What is left in the working bytes of each image.
-- Assumes nothing.
use mathlib.Core.Path.{◌≡◌, subst}
use mathlib.Core.Logic.{◌≢◌}
use mathlib.Core.List.{List}
use Prim.Native.Nat.{ℕ}
use lib.ListN.{length}
use Rattle.extent_keys.specs.Key.{Lawful}
use Rattle.catalog_keys.specs.Key.{Key}
use Rattle.catalog.specs.declared.answers.Lookup.{Lookup}
use Rattle.catalog.specs.Reader.{Leaves, looked_up, lookup_reply}
use Rattle.catalog.proofs.Laws.{left-11, lookup-long, lookup-left}
use Rattle.extents.specs.Reader as extents
use Rattle.blocks.specs.Blocks.{Asked, dec_asked}
use Rattle.blocks.specs.Work.{catalog_number, ExtentsLeft}
use Rattle.blocks.proofs.Order.{number-unasked, number-asked}

module _ (cat : List ℕ) (k : Key) (fork : ℕ) where
  pub unasked-left : (lent : ℕ) (work : List ℕ) → (Asked k fork → ⊥) → Leaves cat (catalog_number cat lent k fork) work work
  unasked-left lent work n = rw (number-unasked cat lent k fork n) (left-11 cat work)

  -- the catalog's lookup leaves in its bytes what is said of the catalog
  pub looked-left : (lent : ℕ) (entry exit : List ℕ) → Lawful fork → Leaves cat (lookup_reply (looked_up cat k lent).answer).number entry exit → Leaves cat (catalog_number cat lent k fork) entry exit
  looked-left lent entry exit l w = go (dec_asked k fork)
    where
      go : Dec (Asked k fork) → Leaves cat (catalog_number cat lent k fork) entry exit
      go (yes a) = rw (number-asked cat lent k fork a) (lookup-left cat lent k a.short entry exit w)
      go (no n) =
          rw (number-unasked cat lent k fork n)
          (subst (λ (r : Lookup). Leaves cat (lookup_reply r.answer).number entry exit) (lookup-long cat lent k (λ s. n (record { lawful = l; short = s }))) w)

module _ (ext : List ℕ) (number : ℕ) (entry exit : List ℕ) where
  pub extents-untouched : number ≢ 0 → exit ≡ entry → ExtentsLeft ext number entry exit
  extents-untouched n e = record { untouched = λ _. e; left = λ z. absurd (n z) }

  pub extents-left : number ≡ 0 → extents.Leaves ext (extents.checked ext (length entry)).number entry exit → ExtentsLeft ext number entry exit
  extents-left z w = record { untouched = λ n. absurd (n z); left = λ _. w }
