-- What the code's answer says of a search by number.
-- Assumes nothing.
use mathlib.Core.Path.{◌≡◌, refl, ap}
use mathlib.Core.Option.{Option, none, some}
use Prim.Native.Nat.{ℕ}
use native.Mathlib.Omega.{arith}
use Rattle.std.specs.Prelude.{Some, None}
use Rattle.btree.specs.Hits.{hit_of}

pub hit-at : (o : Option ℕ) (i : ℕ) → hit_of o ≡ Some i → o ≡ some i
hit-at none i e = absurd (let z : ◌≡◌ {A = ℕ} 0 1 = cc in omega arith)
hit-at (some j) i e = let z : j ≡ i = cc in ap some z

pub hit-nowhere : (o : Option ℕ) → hit_of o ≡ None → o ≡ none
hit-nowhere none e = refl
hit-nowhere (some j) e = absurd (let z : ◌≡◌ {A = ℕ} 0 1 = cc in omega arith)
