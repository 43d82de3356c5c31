-- Which fault tests 9 and 10 find: each is found where it is the first.
-- Assumes nothing.
use mathlib.Core.Path.{◌≡◌, sym, ap, ◌∙◌}
use mathlib.Core.List.{List}
use Prim.Native.Nat.{ℕ, ◌+◌}
use native.Mathlib.Decide.{ℕ_discrete}
use lib.ListN.{length}
use Rattle.image.specs.Bit.{bit_of}
use Rattle.btree.specs.declared.fault.Fault.{Fault}
use Rattle.btree.specs.Places.{image_start}
use Rattle.btree.specs.Decide.{says}
use Rattle.btree.specs.Layout.{Layout}
use Rattle.btree.specs.Header.{total_of, free_of}
use Rattle.btree.specs.Image.{map_bytes}
use Rattle.btree.specs.Walk.{fine, fails, unless, fails_at}
use Rattle.btree.specs.Tests.{bit_for, bit_place, bit_test, map_tests}
use Rattle.btree.proofs.Decisions.{says-yes, says-no}
use Rattle.btree.proofs.First.{unless-true, unless-false}
use Rattle.btree.proofs.Faults.{fault-stays}
use Rattle.btree.specs.Faults.{fault_verdict}
use Rattle.chain.specs.Frame.{Marks}
use Rattle.map.proofs.Bits.{lowest-ext}

module _ (l : Layout) (img bits ns : List ℕ) (marks : Marks bits ns) where
  same : bit_test l img (bit_for ns) ≡ bit_test l img (bit_of bits)
  unfolding bit_test
  same = ap (λ o. fails_at 9 (bit_place l img) o fine) (sym (lowest-ext (bit_of bits) (bit_for ns) marks 0 (map_bytes l img)))

  pub fault9 : (f : Fault) → fault_verdict f ≡ bit_test l img (bit_of bits) → fault_verdict f ≡ map_tests l img ns
  unfolding map_tests
  fault9 f t = rw (same, ← t) (sym (fault-stays f _))

  module _ (t : fine ≡ bit_test l img (bit_of bits)) where
    counts : map_tests l img ns ≡ unless (says (ℕ_discrete (length ns + free_of img) (total_of img))) (fails 10 image_start) fine
    unfolding map_tests
    counts = rw (same, ← t)

    pub fault10 : (length ns + free_of img ≡ total_of img → ⊥) → fails 10 image_start ≡ map_tests l img ns
    fault10 h = sym (counts ∙ unless-false (says (ℕ_discrete (length ns + free_of img) (total_of img))) _ _ (says-no (ℕ_discrete (length ns + free_of img) (total_of img)) h))

    pub map-fine : length ns + free_of img ≡ total_of img → fine ≡ map_tests l img ns
    map-fine h = sym (counts ∙ unless-true (says (ℕ_discrete (length ns + free_of img) (total_of img))) _ _ (says-yes (ℕ_discrete (length ns + free_of img) (total_of img)) h))
