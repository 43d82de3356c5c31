-- The number of an answer, of a comparison of two numbers, and what its tests tell.
-- Assumes nothing.
use mathlib.Core.Path.{◌≡◌, refl, sym, ◌∙◌}
use mathlib.Core.Bool.{true, false}
use Prim.Native.Nat.{ℕ}
use native.Mathlib.Omega.{arith}
use lib.IntN.{ℤ, pos}
use lib.Dec.{eqb, ltb}
use Rattle.std.proofs.Common.{Ordering, Less, Equal, Greater, nat_cmp}
use Rattle.std.proofs.lemmas.Bool.Decides.{nat_tests}
use Rattle.std.specs.Ordering.{is_eq, is_lt, is_ne}
use Rattle.std.proofs.lemmas.Cmp.{ranked as cmp_cases}
use Rattle.btree.specs.Ranked.{ranked}
use Rattle.btree.proofs.Ranked.{ranked-below, ranked-above, ranked-same, eqb-as}
use Rattle.catalog_keys.specs.Key.{number}

pub number-cmp : (a b : ℕ) (r : Ordering) → r ≡ nat_cmp a b → number r ≡ ranked a b (pos 0)
number-cmp a b Less e = let h = cmp_cases a b Less e in sym (ranked-below a b (pos 0) h)
number-cmp a b Equal e = let h = cmp_cases a b Equal e in sym (ranked-same a b (pos 0) h)
number-cmp a b Greater e = let h = cmp_cases a b Greater e in sym (ranked-above a b (pos 0) h)

-- an answer that decides, whatever the next one is
pub number-apart : (a b : ℕ) (z : ℤ) (r : Ordering) → r ≡ nat_cmp a b → true ≡ is_ne r → number r ≡ ranked a b z
number-apart a b z Less e n = let h = cmp_cases a b Less e in sym (ranked-below a b z h)
number-apart a b z Equal e n = cc
number-apart a b z Greater e n = let h = cmp_cases a b Greater e in sym (ranked-above a b z h)

-- and one that leaves it to the next
pub ranked-on : (a b : ℕ) (z : ℤ) (r : Ordering) → r ≡ nat_cmp a b → false ≡ is_ne r → ranked a b z ≡ z
ranked-on a b z Less e n = cc
ranked-on a b z Equal e n = let h = cmp_cases a b Equal e in ranked-same a b z h
ranked-on a b z Greater e n = cc

-- no two answers have one number
number-once : (o p : Ordering) → number o ≡ number p → o ≡ p
number-once Less Less e = refl
number-once Less Equal e = cc
number-once Less Greater e = cc
number-once Equal Less e = cc
number-once Equal Equal e = refl
number-once Equal Greater e = cc
number-once Greater Less e = cc
number-once Greater Equal e = cc
number-once Greater Greater e = refl

-- `Less` is below, and `Equal` is the same
module _ (a b : ℕ) (r : Ordering) (e : number r ≡ ranked a b (pos 0)) where
  answer : r ≡ nat_cmp a b
  answer = number-once r (nat_cmp a b) (e ∙ sym (number-cmp a b (nat_cmp a b) refl))

  pub below_by : is_lt r ≡ ltb a b
  below_by = grind (arith, nat_tests, answer)

  pub same_by : is_eq r ≡ eqb a b
  same_by = grind (arith, nat_tests, answer)

  pub same_other : is_eq r ≡ eqb b a
  same_other = same_by ∙ eqb-as a b b a sym sym
