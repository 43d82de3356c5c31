-- A lookup of an HFS image keeps demand 3.
-- Assumes nothing.
use mathlib.Core.List.{List}
use Prim.Native.Nat.{ℕ}
use Rattle.btree.specs.declared.Lookup.{Lookup}
use Rattle.frame.specs.Form.{hfs}
use Rattle.extent_keys.specs.declared.key.Key.{Key}
use Rattle.extent_keys.specs.Key.{rank}
use Rattle.reader.specs.Demands as demands
use Rattle.editions.specs.Asked.{of_key}
use Rattle.extents.specs.Reader.{Sound}
use Rattle.extents.specs.Demands.{SoundAnswer, LookupSays}
use Rattle.extents.proofs.Compared.{six-in-path, six-each}

module _ (img : List ℕ) (k : Key) (r : Lookup) where
  sound-answer : Sound img → demands.SoundAnswer hfs img (of_key hfs k) r → SoundAnswer img k r
  sound-answer s a = record { answer = a; six = six-in-path img s (rank k); few = rw a.counted (six-each img s (rank k)) }

  -- what is said of every form, and that
  pub lookup-says : (lent : ℕ) → demands.LookupSays hfs img (of_key hfs k) lent r → LookupSays img k lent r
  lookup-says lent l =
      record {
        of_sound = λ s h e. sound-answer s (l.of_sound s h e);
        of_unlawful = l.of_unlawful;
        of_few = l.of_few;
        of_unsound = l.of_unsound;
        of_enough = l.of_enough;
      }
