-- The tests at the end, as the code makes them: level d after level d - 1.
-- Assumes nothing.
use mathlib.Core.Path.{◌≡◌}
use mathlib.Core.Bool.{true, false}
use Prim.Native.Nat.{ℕ, ◌+◌, ◌-◌, ◌<◌, ◌≤◌, pred}
use native.Mathlib.Nat.{sub-zero}
use native.Mathlib.Numerals.{add-one}
use lib.Dec.{eqb}
use Rattle.btree.specs.declared.Verdict.{Verdict}
use Rattle.btree.specs.Places.{image_start, forward_link}
use Rattle.btree.specs.Tree.{View}
use Rattle.btree.specs.Decide.{says}
use Rattle.btree.specs.Walk.{fine, fails, unless, dec_leads, dec_totals, ends, closing}
use Rattle.btree.proofs.Decisions.{says-equal}
use Rattle.btree.proofs.First.{unless-true, unless-false}
use Rattle.step.specs.declared.state.Walk.{Walk}
use Rattle.step.specs.State.{last_at}
use Rattle.btree.proofs.Left.{one_more, none_left}

abbrev pub rest : View → Walk → Verdict
rest v w = unless (says (dec_totals v w.first (last_at w (pred v.depth)) w.records)) (fails 8 image_start) fine

pub totals-test : (v : View) (a b c : ℕ) → v.first_leaf ≡ a → v.last_leaf ≡ b → eqb v.leaf_records c ≡ says (dec_totals v a b c)
totals-test v a b c p q = says-equal (dec_totals v a b c) v.leaf_records c (λ e. record { first = p; last = q; records = e }) (λ t. t.records)

module _ (v : View) where
  pub closing-start : (w : Walk) (depth : ℕ) → depth ≡ v.depth → closing v (last_at w) w.first w.records ≡ ends v (last_at w) 0 (depth - 0) (rest v w)
  unfolding closing
  closing-start w depth e = rw (e, sub-zero)

  module _ (last : ℕ → ℕ) (depth d : ℕ) (r : Verdict) where
    pub ends-end : depth ≤ d → ends v last d (depth - d) r ≡ r
    unfolding ends
    ends-end h = rw (none_left depth d h)

    pub ends_on : d < depth → says (dec_leads v (last d) 0) ≡ true → ends v last d (depth - d) r ≡ ends v last (d + 1) (depth - (d + 1)) r
    unfolding ends
    ends_on h e = rw (one_more depth d h, add-one d) (unless-true _ _ _ e)

    pub ends-stop : d < depth → says (dec_leads v (last d) 0) ≡ false → ends v last d (depth - d) r ≡ fails 7 (forward_link (last d))
    unfolding ends
    ends-stop h e = rw (one_more depth d h) (unless-false _ _ _ e)
