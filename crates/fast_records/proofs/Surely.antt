-- An answer that promises something only where it is true, the bytes of a slice, and a number in place of none.
-- Assumes nothing.
use mathlib.Core.Path.{◌≡◌, sym, ◌∙◌}
use mathlib.Core.Bool.{true, false, true≢false}
use mathlib.Core.List.{List}
use Prim.Native.Nat.{ℕ}
use native.Mathlib.Omega.{arith}
use lib.ListN.{get_or}
use mir.Syntax.{w8}
use mir.Val.{Fits}
use Rattle.std.specs.Prelude.{MatchOption}
use Rattle.std.specs.Option.{unwrap_or}
use Rattle.std.specs.declared.option.Option.{Option}
use Rattle.std.specs.declared.option.Option.TheVariants.{Some, None}
use Rattle.image.proofs.Words.{Bytes}

pub never : {A : Type 0} → false ≡ true → A
never e = absurd (true≢false (sym e))

-- the items of a slice of bytes, as its type has them
pub bytes-of : (img : List ℕ) → ((i : ℕ) → Fits w8 (get_or img i 0)) → Bytes img
bytes-of img f i = omega (arith, f i)

-- the number of what stands before a place, where something does
pub before-or : (o : Option ℕ) (after d k t : ℕ) → MatchOption o (after ≡ 0) (λ x. (after ≡ 0 → ⊥) × (x ≡ k)) → t ≡ unwrap_or o d → (after ≡ 0 → ⊥) → t ≡ k
before-or None after d k t z e n = absurd (n z)
before-or (Some x) after d k t h e n = e ∙ h.1
