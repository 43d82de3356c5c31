-- W-202: how a key is looked for among records that are numbered from 0, of any count and with any keys.
-- Assumes nothing.
use Rattle.std.proofs.Math.Option.{Option, none, some}
use Rattle.std.specs.Prelude.{ℕ, zero, suc, ◌+◌, ◌-◌, ◌/◌}
use Rattle.std.proofs.Math.Decide.{dec_le}
use Rattle.btree.specs.declared.Halved.{Halved}
use Rattle.btree.specs.Decide.{cond}

-- one key compared, and then what r comes to
abbrev pub compared_once : Halved → Halved
compared_once r = record { end = r.end; compared = suc r.compared }

-- Of n records left, of which i is the first: "it compares the middle one of those left (of two, the later), and goes on after it if its key is not above
-- the asked one, else before it, until none is left". At most so many steps are made; each leaves fewer, so as many as records are enough.
unfoldable pub halving : (ℕ → ℕ) → ℕ → ℕ → ℕ → ℕ → Halved
halving key k zero i n = record { end = i; compared = 0 }
halving key k (suc steps) i zero = record { end = i; compared = 0 }
halving key k (suc steps) i (suc n) =
    compared_once
    (cond (dec_le (key (i + suc n / 2)) k)
    (halving key k steps (i + suc n / 2 + 1) (suc n - suc n / 2 - 1))
    (halving key k steps i (suc n / 2)))

-- with as many steps as records
abbrev pub halved_from : (ℕ → ℕ) → ℕ → ℕ → ℕ → Halved
halved_from key k i n = halving key k n i n

-- of all records of a count
unfoldable pub halved : (ℕ → ℕ) → ℕ → ℕ → Halved
halved key k count = halved_from key k 0 count

-- the record before the point where it ends, none where it ends at 0
abbrev pub before : ℕ → Option ℕ
before zero = none
before (suc i) = some i
