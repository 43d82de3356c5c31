-- The bits of the map laid down: the first are set, as many as nodes are used, and no other.
-- Assumes nothing.
use mathlib.Core.Path.{◌≡◌, refl, ap, ◌∙◌}
use mathlib.Core.Logic.Dec
use mathlib.Core.Bool.{Bool, true, false}
use Prim.Native.Nat.{ℕ, ◌+◌, ◌-◌, ◌*◌, ◌/◌, ◌%◌, ◌^◌, ◌≤◌, ◌<◌, min}
use native.Mathlib.Omega.{arith}
use native.Mathlib.Decide.{ℕ_discrete, dec_lt}
use lib.Dec.{ltb}
use borrow.Author.Tests.{lt-ltb, le-ltb}
use Rattle.image.specs.Bit.{bit_of}
use Rattle.image.proofs.Laws.{bit-beyond}
use Rattle.btree.specs.Decide.{says, map_dec, dec_all}
use Rattle.btree.proofs.Decisions.{said}
use Rattle.laid.specs.Laid.{map_byte, map_part}
use Rattle.laid.proofs.Bytes.{ones-at}
use Rattle.laid.proofs.Nodes.{part_length}

abbrev bit_if : Bool → ℕ
bit_if true = 1
bit_if false = 0

-- bit b of a byte with the first t set: all 72 cases, computed
bit-table : (t : ℕ) → t < 9 → (b : ℕ) → b < 8 → (256 - 2 ^ (8 - t)) / 2 ^ (7 - b) % 2 ≡ bit_if (ltb b t)
unfolding says dec_all map_dec Dec.and ℕ_discrete
bit-table = said (dec_all (λ t. dec_all (λ b. ℕ_discrete ((256 - 2 ^ (8 - t)) / 2 ^ (7 - b) % 2) (bit_if (ltb b t))) 8) 9) refl

bit_is : (U N n : ℕ) → n < 8 * N → bit_of (map_part U 0 N) n ≡ bit_if (ltb (n % 8) (min 8 (U - 8 * (n / 8))))
unfolding bit_of map_part map_byte
bit_is U N n l =
    ap (λ x. x / 2 ^ (7 - n % 8) % 2) (ones-at 0 (map_byte U) 0 N (n / 8) (omega arith) ∙ ap (map_byte U) (let z : 0 + n / 8 ≡ n / 8 = omega arith in z))
    ∙ bit-table (min 8 (U - 8 * (n / 8))) (omega arith) (n % 8) (omega arith)

pub bit-set : (U N n : ℕ) → n < 8 * N → n < U → bit_of (map_part U 0 N) n ≡ 1
bit-set U N n l u = bit_is U N n l ∙ ap bit_if (lt-ltb (n % 8) (min 8 (U - 8 * (n / 8))) (omega arith))

pub bit-clear : (U N n : ℕ) → U ≤ n → bit_of (map_part U 0 N) n ≡ 0
bit-clear U N n u = go (dec_lt n (8 * N))
  where
    go : Dec (n < 8 * N) → bit_of (map_part U 0 N) n ≡ 0
    go (yes l) = bit_is U N n l ∙ ap bit_if (le-ltb (n % 8) (min 8 (U - 8 * (n / 8))) (omega arith))
    go (no l) = let p = part_length U 0 N in bit-beyond (map_part U 0 N) n (omega arith)
