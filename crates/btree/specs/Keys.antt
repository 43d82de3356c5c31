-- What of test 6 has to be tested at a node; the rest of it follows. No public promise mentions it.
-- Assumes nothing.
use Rattle.std.proofs.Math.Logic.Dec
use Rattle.std.proofs.Math.Option.{Option}
use Rattle.std.specs.Prelude.{ℕ, pred, ◌<◌}
use Rattle.std.proofs.Math.Decide.{dec_lt}
use Rattle.btree.specs.Decide.{dec_imp, first_not}
use Rattle.btree.specs.Tree.{View}
use Rattle.btree.specs.Walk.{Under, Meets, dec_if_some}

module _ (v : View) where
  open v use {count, key}

  -- the key of record i is above the one before, and below the bound
  abbrev pub Rises : Option ℕ → ℕ → ℕ → Type 0
  Rises hi n i = (0 < i → key n (pred i) < key n i) × Under (key n i) hi

  unfoldable pub dec_rises : (hi : Option ℕ) (n i : ℕ) → Dec (Rises hi n i)
  dec_rises hi n i = Dec.and (dec_imp (dec_lt 0 i) (dec_lt (key n (pred i)) (key n i))) (dec_if_some (λ b. dec_lt (key n i) b) hi)

  -- the first record of which that fails
  unfoldable pub first_fall : Option ℕ → ℕ → Option ℕ
  first_fall hi n = first_not (dec_rises hi n) 0 (count n)

  -- the first key, where there is one, is the one that points at the node
  abbrev pub FirstMeets : Option ℕ → ℕ → Type 0
  FirstMeets lo n = 0 < count n → Meets (key n 0) lo
