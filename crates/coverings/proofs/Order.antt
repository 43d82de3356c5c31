-- The order of tests: what is answered where the one before it passes, and where it fails.
-- Assumes nothing.
use mathlib.Core.Path.{◌≡◌, sym, ap, ◌∙◌}
use mathlib.Core.Logic.{◌≢◌}
use mathlib.Core.List.{List}
use Prim.Native.Nat.{ℕ, ◌≤◌, ◌<◌}
use native.Mathlib.Omega.{arith}
use native.Mathlib.Decide.{ℕ_discrete, dec_lt}
use Rattle.btree.specs.declared.Place.{Place}
use Rattle.btree.specs.Decide.{cond}
use Rattle.btree.proofs.Decisions.{cond_yes, cond_no}
use Rattle.btree.proofs.Ordered.{if-zero, if-other}
use Rattle.extent_keys.specs.Key.{Lawful, asked}
use Rattle.catalog_entries.specs.declared.Entry.{Entry}
use Rattle.catalog_entries.specs.declared.Entry.TheVariants as kind
use Rattle.catalog_entries.specs.declared.File.{File}
use Rattle.extents.specs.declared.floors.Floor.{Floor}
use Rattle.extents.specs.Reader.{checked}
use Rattle.extents.specs.Floor.{floored}
use Rattle.extents.proofs.Highest.{floored-refused}
use Rattle.coverings.specs.declared.answers.Source.TheVariants.{Extents}
use Rattle.coverings.specs.declared.answers.Mapping.{Mapping}
use Rattle.extent_data.specs.Pairs.{block_count, counted_off}
use Rattle.coverings.specs.Answers.{mapped_to}
use Rattle.coverings.specs.Covered.{first_extents, first_start, first_covering, refused_by, after_extents, by_floor, in_extents, in_file, in_entry}

-- the pairs of either fork stand in the 102 bytes of a file record's data
pub first_small : (fork : ℕ) → first_start fork ≤ 86
unfolding first_start
first_small fork = go (ℕ_discrete fork 0)
  where
    go : (d : Dec (fork ≡ 0)) → cond d 74 86 ≤ 86
    go (yes e) = omega arith
    go (no n) = omega arith

module _ (ext : List ℕ) (lent : ℕ) where
  pub after-sound : (m : Mapping) → (checked ext lent).number ≡ 0 → after_extents ext lent m ≡ m
  unfolding after_extents
  after-sound m z = if-zero (checked ext lent).number _ _ z

  pub after-refused : (m : Mapping) → (checked ext lent).number ≢ 0 → after_extents ext lent m ≡ refused_by Extents (checked ext lent)
  unfolding after_extents
  after-refused m z = if-other (checked ext lent).number _ _ z

  module _ (file fork block : ℕ) where
    pub by-floor : (r : Floor) → r ≡ floored ext (asked file fork block) lent → by_floor ext lent file fork block r ≡ in_extents ext lent file fork block
    unfolding in_extents
    by-floor r e = ap (by_floor ext lent file fork block) e

    extents-refused : Lawful fork → (checked ext lent).number ≢ 0 → in_extents ext lent file fork block ≡ refused_by Extents (checked ext lent)
    extents-refused l z = sym (by-floor _ (sym (floored-refused ext (asked file fork block) lent l z)))

  module _ (cat : List ℕ) (fork block : ℕ) where
    module _ (p : Place) (f : File) where
      pub file-first : block < block_count (first_extents f fork)
          → in_file ext lent cat fork block p f ≡ after_extents ext lent (mapped_to (first_covering cat fork p) (counted_off (first_extents f fork) block))
      unfolding in_file
      file-first h = cond_yes (dec_lt block (block_count (first_extents f fork))) _ _ h

      pub file-later : block_count (first_extents f fork) ≤ block → in_file ext lent cat fork block p f ≡ in_extents ext lent f.file_id fork block
      unfolding in_file
      file-later h = cond_no (dec_lt block (block_count (first_extents f fork))) _ _ (λ w. omega arith)

    module _ (lawful : Lawful fork) (z : (checked ext lent).number ≢ 0) where
      file-refused : (p : Place) (f : File) → in_file ext lent cat fork block p f ≡ refused_by Extents (checked ext lent)
      file-refused p f = go (dec_lt block (block_count (first_extents f fork)))
        where
          go : Dec (block < block_count (first_extents f fork)) → in_file ext lent cat fork block p f ≡ refused_by Extents (checked ext lent)
          go (yes h) = file-first p f h ∙ after-refused _ z
          go (no h) = file-later p f (omega arith) ∙ extents-refused f.file_id fork block lawful z

      pub entry-refused : (p : Place) (e : Entry) → in_entry ext lent cat fork block p e ≡ refused_by Extents (checked ext lent)
      entry-refused p (kind.File f) = file-refused p f
      entry-refused p (kind.Directory d) = after-refused _ z
      entry-refused p (kind.DirectoryThread t) = after-refused _ z
      entry-refused p (kind.FileThread t) = after-refused _ z
