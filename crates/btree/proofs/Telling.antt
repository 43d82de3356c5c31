-- An answer that says whether a fact holds.
-- Assumes nothing.
use mathlib.Core.Path.{◌≡◌, refl, sym, ◌∙◌}
use mathlib.Core.Bool.{Bool, true, false}
use Prim.Native.Nat.{ℕ, ◌<◌}
use native.Mathlib.Omega.{arith}
use lib.Dec.{eqb, ltb}
use borrow.Author.Tests.{eqb-true, eq-eqb, ltb-true, lt-ltb}
use Rattle.btree.specs.Decide.{says}
use Rattle.btree.proofs.Decisions.{says-yes, says-no, said}
use Rattle.btree.specs.Tells.{Tells}

pub tells-yes : {P : Type 0} → P → Tells true P
tells-yes p = record { holds = λ e. p; says = λ q. refl }

pub tells-no : {P : Type 0} → (P → ⊥) → Tells false P
tells-no n = record { holds = λ e. let z : ◌≡◌ {A = ℕ} 0 1 = cc in absurd (omega arith); says = λ p. absurd (n p) }

pub told-no : {P : Type 0} (b : Bool) → Tells b P → b ≡ false → P → ⊥
told-no b t e p = let q = t.says p in let z : ◌≡◌ {A = ℕ} 0 1 = cc in omega arith

-- as the decision of a fact that follows from it, and from which it follows
pub tells-says : {P Q : Type 0} (b : Bool) (d : Dec Q) → Tells b P → (P → Q) → (Q → P) → b ≡ says d
tells-says true d t f g = sym (says-yes d (f (t.holds refl)))
tells-says false d t f g = sym (says-no d (λ q. told-no false t refl (g q)))

-- an answer that decides another fact, or compares two numbers, tells of what that comes to
pub tells-dec : {P Q : Type 0} {b : Bool} (d : Dec Q) → b ≡ says d → (Q → P) → (P → Q) → Tells b P
tells-dec d e f g = record { holds = λ t. f (said d (sym e ∙ t)); says = λ p. e ∙ says-yes d (g p) }

pub tells-equal : {P : Type 0} {b : Bool} (x y : ℕ) → b ≡ eqb x y → (x ≡ y → P) → (P → x ≡ y) → Tells b P
tells-equal x y e f g = record { holds = λ t. f (eqb-true x y (sym e ∙ t)); says = λ p. e ∙ eq-eqb x y (g p) }

pub tells-less : {P : Type 0} {b : Bool} (x y : ℕ) → b ≡ ltb x y → (x < y → P) → (P → x < y) → Tells b P
tells-less x y e f g = record { holds = λ t. f (ltb-true x y (sym e ∙ t)); says = λ p. e ∙ lt-ltb x y (g p) }
