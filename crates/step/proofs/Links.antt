-- The tests of links and of a leaf's level, as the code makes them.
-- Assumes nothing.
use mathlib.Core.Path.{◌≡◌, refl, sym, ◌∙◌}
use Prim.Native.Nat.{ℕ, zero, suc, ◌+◌}
use native.Mathlib.Omega.{arith}
use lib.Dec.{eqb}
use borrow.Author.Tests.{eq-eqb, ne_eqb}
use Rattle.btree.specs.Decide.{says}
use Rattle.btree.specs.Tree.{View}
use Rattle.btree.specs.Walk.{first_or, dec_leads}
use Rattle.btree.proofs.Decisions.{says-equal}

pub first-kept : (p n : ℕ) → (p ≡ 0 → ⊥) → first_or p n ≡ p
first-kept zero n h = absurd (h refl)
first-kept (suc p) n h = refl

pub leads-test : (v : View) (p n : ℕ) → (p ≡ 0 → ⊥) → eqb (v.forward p) n ≡ says (dec_leads v p n)
leads-test v p n h = says-equal (dec_leads v p n) (v.forward p) n (λ e z. e) (λ f. f h)

pub leaf-test : (d h depth : ℕ) → d + h + 1 ≡ depth → eqb h 0 ≡ eqb (d + 1) depth
leaf-test d zero depth e = eq-eqb 0 0 refl ∙ sym (eq-eqb (d + 1) depth (omega arith))
leaf-test d (suc h) depth e = ne_eqb (suc h) 0 (λ z. omega arith) ∙ sym (ne_eqb (d + 1) depth (λ z. omega arith))
