-- W-202: where keys ascend, halving comes to the record with the highest key not above another; and it compares few keys.
-- Assumes nothing.
use mathlib.Core.Path.{◌≡◌, refl, ap, ◌∙◌}
use mathlib.Core.Logic.{◌≢◌}
use mathlib.Core.Option.{Option, none, some}
use Prim.Native.Nat.{ℕ, zero, suc, ◌+◌, ◌-◌, ◌*◌, ◌/◌, ◌^◌, ◌≤◌, ◌<◌}
use native.Mathlib.Omega.{arith}
use native.Mathlib.Nat.{pow-succ'}
use native.Mathlib.Decide.{ℕ_discrete, dec_le, dec_lt}
use lib.ListN.{length}
use Rattle.btree.specs.declared.Halved.{Halved}
use Rattle.btree.specs.Decide.{cond}
use Rattle.btree.specs.Tree.{View, OnLevel, SoundTree}
use Rattle.btree.specs.Halving.{compared_once, halving, halved_from, halved, before}
use Rattle.btree.specs.Search.{Highest, highest_of, path_of, record_with, halved_in, halved_to, with_key, compared_of}
use Rattle.btree.proofs.Decisions.{cond_yes, cond_no}
use Rattle.btree.proofs.Lists.{summed-most}
use Rattle.btree.proofs.KeysAscend.{up_to, one_key}
use Rattle.btree.proofs.Leaves.{keys-mono}
use Rattle.btree.proofs.Paths.{highest-some, highest-none, highest-at, path-on}
use Rattle.btree.proofs.Answers.{with-some, with_none}

module _ (key : ℕ → ℕ) (k : ℕ) where
  -- more steps change nothing
  enough : (f g i n : ℕ) → n ≤ f → n ≤ g → halving key k f i n ≡ halving key k g i n
  unfolding halving
  enough zero zero i n a b = refl
  enough zero (suc g) i zero a b = refl
  enough zero (suc g) i (suc n) a b = absurd (omega arith)
  enough (suc f) zero i zero a b = refl
  enough (suc f) zero i (suc n) a b = absurd (omega arith)
  enough (suc f) (suc g) i zero a b = refl
  enough (suc f) (suc g) i (suc n) a b =
      rw (enough f g (i + suc n / 2 + 1) (suc n - suc n / 2 - 1) (omega arith) (omega arith), enough f g i (suc n / 2) (omega arith) (omega arith))

  -- none is left
  pub halved-end : (i n : ℕ) → n ≡ 0 → halved_from key k i n ≡ record { end = i; compared = 0 }
  unfolding halving
  halved-end i zero e = refl
  halved-end i (suc n) e = absurd (omega arith)

  -- on after the middle one, or before it
  pub halved-after : (i n : ℕ) → 0 < n → key (i + n / 2) ≤ k → halved_from key k i n ≡ compared_once (halved_from key k (i + n / 2 + 1) (n - n / 2 - 1))
  unfolding halving
  halved-after i zero p h = absurd (omega arith)
  halved-after i (suc n) p h =
      ap compared_once (cond_yes (dec_le (key (i + suc n / 2)) k) _ _ h ∙ enough n (suc n - suc n / 2 - 1) (i + suc n / 2 + 1) (suc n - suc n / 2 - 1) (omega arith) (omega arith))

  pub halved-before : (i n : ℕ) → 0 < n → k < key (i + n / 2) → halved_from key k i n ≡ compared_once (halved_from key k i (n / 2))
  unfolding halving
  halved-before i zero p h = absurd (omega arith)
  halved-before i (suc n) p h =
      ap compared_once (cond_no (dec_le (key (i + suc n / 2)) k) _ _ (λ q. omega arith) ∙ enough n (suc n / 2) i (suc n / 2) (omega arith) (omega arith))

  -- what holds where none is left, and before a step where it holds after it, holds of halving
  module _ (P : ℕ → ℕ → Halved → Type 0) (ends : (i : ℕ) → P i 0 (record { end = i; compared = 0 }))
      (after : (i n : ℕ) (r : Halved) → 0 < n → key (i + n / 2) ≤ k → P (i + n / 2 + 1) (n - n / 2 - 1) r → P i n (compared_once r))
      (earlier : (i n : ℕ) (r : Halved) → 0 < n → k < key (i + n / 2) → P i (n / 2) r → P i n (compared_once r)) where
    by-steps : (f i n : ℕ) → n ≤ f → P i n (halving key k f i n)
    unfolding halving
    by-steps zero i zero a = ends i
    by-steps zero i (suc n) a = absurd (omega arith)
    by-steps (suc f) i zero a = ends i
    by-steps (suc f) i (suc n) a =
        go (dec_le (key (i + suc n / 2)) k) (by-steps f (i + suc n / 2 + 1) (suc n - suc n / 2 - 1) (omega arith)) (by-steps f i (suc n / 2) (omega arith))
      where
        go : {x y : Halved} (q : Dec (key (i + suc n / 2) ≤ k)) → P (i + suc n / 2 + 1) (suc n - suc n / 2 - 1) x → P i (suc n / 2) y → P i (suc n) (compared_once (cond q x y))
        go (yes p) x y = after i (suc n) _ (omega arith) p x
        go (no p) x y = earlier i (suc n) _ (omega arith) (omega arith) y

    by-halving : (n : ℕ) → P 0 n (halved key k n)
    unfolding halved
    by-halving n = by-steps n 0 n (omega arith)

  -- it ends among the records
  pub halved-inside : (n : ℕ) → (halved key k n).end ≤ n
  halved-inside n =
      let q = by-halving (λ i n r. r.end ≤ i + n) (λ i. omega arith) (λ i n r p h a. omega arith) (λ i n r p h a. omega arith) n in
      omega arith

  few-step : (n n' c : ℕ) → 0 < n → n' ≤ n / 2 → ((b : ℕ) → n' < 2 ^ b → c ≤ b) → (b : ℕ) → n < 2 ^ b → suc c ≤ b
  few-step n n' c p h f zero l = absurd (omega arith)
  few-step n n' c p h f (suc b) l = let e = pow-succ' 2 b in let q = f b (omega arith) in omega arith

  -- of fewer than 2 ^ b records it compares at most b
  pub few : (n b : ℕ) → n < 2 ^ b → (halved key k n).compared ≤ b
  few =
      by-halving (λ i n r. (b : ℕ) → n < 2 ^ b → r.compared ≤ b) (λ i b l. omega arith)
      (λ i n r p h. few-step n (n - n / 2 - 1) r.compared p (omega arith))
      (λ i n r p h. few-step n (n / 2) r.compared p (omega arith))

  -- so at most as many as their count has binary digits: 2 to the power of one less is at most the count
  pub most : (n : ℕ) → 0 < n → 2 ^ ((halved key k n).compared - 1) ≤ n
  most n p = go (halved key k n).compared (few n)
    where
      go : (c : ℕ) → ((b : ℕ) → n < 2 ^ b → c ≤ b) → 2 ^ (c - 1) ≤ n
      go zero f = omega arith
      go (suc c) f = let e : suc c - 1 ≡ c = omega arith in rw e (below (dec_lt n (2 ^ c)))
        where
          below : Dec (n < 2 ^ c) → 2 ^ c ≤ n
          below (yes l) = let q = f c l in absurd (omega arith)
          below (no l) = omega arith

  module _ (n : ℕ) (up : (i j : ℕ) → i < j → j < n → key i < key j) where
    -- the records before those left are not above k, and those after them are
    pub record Apart (first end : ℕ) : Type 0 where
      pub low : (i : ℕ) → i < first → i < n → key i ≤ k
      pub high : (i : ℕ) → end ≤ i → i < n → k < key i

    -- where the keys of n records ascend, those before the end are not above k, and the others are
    pub halved-apart : Apart (halved key k n).end (halved key k n).end
    halved-apart =
        by-halving (λ i m r. i + m ≤ n → Apart i (i + m) → Apart r.end r.end) (λ i l a. record { low = a.low; high = λ j u w. a.high j (omega arith) w })
        (λ i m r p h f l a. f (omega arith) (record { low = λ j u w. let z = up_to key n up j (i + m / 2) (omega arith) (omega arith) in omega arith; high = λ j u w. a.high j (omega arith) w }))
        (λ i m r p h f l a. f (omega arith) (record { low = a.low; high = λ j u w. let z = up_to key n up (i + m / 2) j (omega arith) w in omega arith }))
        n (omega arith) (record { low = λ j u w. absurd (omega arith); high = λ j u w. absurd (omega arith) })

module _ (v : View) (k n : ℕ) where
  open v use {key, count}

  none-highest : ((j : ℕ) → j < count n → k < key n j) → highest_of v n k (count n) ≡ none
  none-highest f = go (highest_of v n k (count n)) refl
    where
      go : (o : Option ℕ) → highest_of v n k (count n) ≡ o → o ≡ none
      go none e = refl
      go (some i) e = let b = highest-some v n k i e in let z = f i b.inside in let y = b.not_above in absurd (omega arith)

  module _ (up : (i j : ℕ) → i < j → j < count n → key n i < key n j) where
    -- where a node's keys ascend, halving comes to the record with the highest key not above k
    pub halved-highest : highest_of v n k (count n) ≡ halved_to v k n
    unfolding halved_in
    halved-highest = go (halved (key n) k (count n)).end (halved-apart (key n) k (count n) up) (halved-inside (key n) k (count n))
      where
        go : (a : ℕ) → Apart (key n) k (count n) up a a → a ≤ count n → highest_of v n k (count n) ≡ before a
        go zero s u = none-highest (λ j l. s.high j (omega arith) l)
        go (suc i) s u = highest-at v n k i (omega arith) (s.low i (omega arith) (omega arith)) other
          where
            other : (j : ℕ) → j < count n → j ≢ i → key n j ≤ k → key n j < key n i
            other j l ne h = here (dec_lt j i)
              where
                here : Dec (j < i) → key n j < key n i
                here (yes q) = up j i q (omega arith)
                here (no q) = let z = s.high j (omega arith) l in absurd (omega arith)

    -- so the record that has the key k is the one that halving comes to, where that has it
    pub halved-with : with_key v k n (halved_to v k n) ≡ record_with v n k 0 (count n)
    halved-with =
        go (halved_to v k n) (λ i e. highest-some v n k i (halved-highest ∙ e)) (λ e. highest-none v n k (halved-highest ∙ e))
        (record_with v n k 0 (count n)) (with-some v n k) (with_none v n k)
      where
        go : (q : Option ℕ) → ((i : ℕ) → q ≡ some i → Highest v n k i) → (q ≡ none → (j : ℕ) → j < count n → k < key n j)
            → (w : Option ℕ) → ((j : ℕ) → w ≡ some j → (j < count n) × (key n j ≡ k)) → (w ≡ none → (j : ℕ) → j < count n → key n j ≢ k)
            → with_key v k n q ≡ w
        go none a b none c e = refl
        go none a b (some j) c e = let (u, z) = c j refl in let y = b refl j u in absurd (omega arith)
        go (some i) a b none c e = cond_no (ℕ_discrete (key n i) k) _ _ (e refl i (a i refl).inside)
        go (some i) a b (some j) c e =
            let x = a i refl in
            let (u, z) = c j refl in
            let y = x.highest j u (omega arith) in
            let w = x.not_above in
            let p : key n i ≡ k = omega arith in
            cond_yes (ℕ_discrete (key n i) k) _ _ p ∙ ap some (one_key (key n) (count n) up i j x.inside u (omega arith))

-- so in every node of a sound tree: the path, the place and the answer, which are made of these, are the same as without halving
module _ (v : View) (s : SoundTree v) (k d n : ℕ) (o : OnLevel v d n) where
  open v use {count}

  pub halved-pointer : highest_of v n k (count n) ≡ halved_to v k n
  halved-pointer = halved-highest v k n (λ i j. keys-mono v s d n i j o)

  pub halved-leaf : with_key v k n (halved_to v k n) ≡ record_with v n k 0 (count n)
  halved-leaf = halved-with v k n (λ i j. keys-mono v s d n i j o)

-- where every node of the tree has fewer than 2 ^ b records, a search compares at most b keys for each node of its path
pub compared-few : (v : View) (k b : ℕ) → ((d n : ℕ) → OnLevel v d n → v.count n < 2 ^ b) → compared_of v k ≤ b * length (path_of v k)
unfolding halved_in
compared-few v k b h = summed-most _ b (path_of v k) (λ n m. let (d, o) = path-on v k n m in few (v.key n) k (v.count n) b (h d n o))
