-- Test 4, by the bits of the visited bitmap.
-- Assumes nothing.
use mathlib.Core.Path.{◌≡◌, refl}
use mathlib.Core.Bool.{Bool, true, false}
use mathlib.Core.List.{List}
use Prim.Native.Nat.{ℕ, ◌<◌}
use native.Mathlib.Omega.{arith}
use lib.Dec.{eqb, ltb}
use borrow.Author.Tests.{eq-eqb, eqb-true, ltb-true, lt-ltb}
use Rattle.image.specs.Bit.{bit_of}
use Rattle.btree.specs.Decide.{says}
use Rattle.btree.specs.Tells.{pick}
use Rattle.step.specs.State.{fresh_in}
use Rattle.btree.proofs.Telling.{tells-says}

module _ (total : ℕ) (bits : List ℕ) (n : ℕ) where
  pub record Free : Type 0 where
    pub range : n < total
    pub unmarked : bit_of bits n ≡ 0

  pub fresh-free : fresh_in total bits n ≡ true → Free
  unfolding fresh_in
  fresh-free = go (ltb n total) (eqb (bit_of bits n) 0) refl refl
    where
      go : (a b : Bool) → ltb n total ≡ a → eqb (bit_of bits n) 0 ≡ b → pick a b false ≡ true → Free
      go false b p q z = let y : ◌≡◌ {A = ℕ} 0 1 = cc in absurd (omega arith)
      go true false p q z = let y : ◌≡◌ {A = ℕ} 0 1 = cc in absurd (omega arith)
      go true true p q z = record { range = ltb-true n total p; unmarked = eqb-true (bit_of bits n) 0 q }

  free-fresh : Free → fresh_in total bits n ≡ true
  unfolding fresh_in
  free-fresh f = rw (lt-ltb n total f.range, eq-eqb (bit_of bits n) 0 f.unmarked)

  -- as the decision of anything that says the same
  pub free-says : {P : Type 0} (d : Dec P) → (Free → P) → (P → Free) → fresh_in total bits n ≡ says d
  free-says d f g = tells-says (fresh_in total bits n) d (record { holds = fresh-free; says = free-fresh }) f g
