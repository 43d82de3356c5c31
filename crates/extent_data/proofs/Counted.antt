-- The pairs of an extents record counted off: what the count gives is what one of the pairs gives, and nothing else.
-- Assumes nothing.
use mathlib.Core.Path.{◌≡◌, ◌∙◌}
use mathlib.Core.Logic.{inl, inr, ⊎_elim}
use Prim.Native.Nat.{ℕ, ◌+◌, ◌-◌, ◌≤◌, ◌<◌}
use native.Mathlib.Omega.{arith}
use native.Mathlib.Decide.{dec_lt}
use Rattle.btree.proofs.Decisions.{cond_yes, cond_no}
use Rattle.extent_data.specs.declared.ExtentData.{ExtentData}
use Rattle.extent_data.specs.Pairs.{block_count, counted_off, InPair, Gives}

module _ (d : ExtentData) (n : ℕ) where
  pub in-first : n < d.count1 → counted_off d n ≡ d.block1 + n
  unfolding counted_off
  in-first h = cond_yes (dec_lt n d.count1) _ _ h

  pub in-second : d.count1 ≤ n → n - d.count1 < d.count2 → counted_off d n ≡ d.block2 + (n - d.count1)
  unfolding counted_off
  in-second a h = cond_no (dec_lt n d.count1) _ _ (λ w. omega arith) ∙ cond_yes (dec_lt (n - d.count1) d.count2) _ _ h

  pub in-third : d.count1 ≤ n → d.count2 ≤ n - d.count1 → counted_off d n ≡ d.block3 + (n - d.count1 - d.count2)
  unfolding counted_off
  in-third a b = cond_no (dec_lt n d.count1) _ _ (λ w. omega arith) ∙ cond_no (dec_lt (n - d.count1) d.count2) _ _ (λ w. omega arith)

  pub counted-gives : n < block_count d → Gives d n (counted_off d n)
  counted-gives h = go (dec_lt n d.count1) (dec_lt (n - d.count1) d.count2)
    where
      go : Dec (n < d.count1) → Dec (n - d.count1 < d.count2) → Gives d n (counted_off d n)
      go (yes a) b = let e = in-first a in inl (record { from = omega arith; past = omega arith; is_block = omega arith })
      go (no a) (yes b) = let e = in-second (omega arith) b in inr (inl (record { from = omega arith; past = omega arith; is_block = omega arith }))
      go (no a) (no b) = let e = in-third (omega arith) (omega arith) in inr (inr (record { from = omega arith; past = omega arith; is_block = omega arith }))

  module _ (v : ℕ) where
    pub gives-inside : Gives d n v → n < block_count d
    gives-inside = ⊎_elim (λ p. omega (arith, p.past)) (⊎_elim (λ p. omega (arith, p.past)) (λ p. omega (arith, p.past)))

    pub gives-counted : Gives d n v → v ≡ counted_off d n
    gives-counted = ⊎_elim first (⊎_elim second third)
      where
        first : InPair 0 d.block1 d.count1 n v → v ≡ counted_off d n
        first p = let b = p.past in let i = p.is_block in let e = in-first (omega arith) in omega arith

        second : InPair d.count1 d.block2 d.count2 n v → v ≡ counted_off d n
        second p = let a = p.from in let b = p.past in let i = p.is_block in let e = in-second a (omega arith) in omega arith

        third : InPair (d.count1 + d.count2) d.block3 d.count3 n v → v ≡ counted_off d n
        third p = let a = p.from in let i = p.is_block in let e = in-third (omega arith) (omega arith) in omega arith
