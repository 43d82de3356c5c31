-- Working bytes: those that hold the bits of some nodes are their bitmap, and what a call leaves in them by the number of its answer.
-- Assumes nothing.
use mathlib.Core.Path.{◌≡◌, refl, sym, ap, ◌∙◌}
use mathlib.Core.Logic.{◌⊎◌, inr, ◌↔◌, ⊎_elim}
use mathlib.Core.List.Memᴰ
use mathlib.Core.List.{List, [], ◌∷◌, ◌++◌}
use Prim.Native.Nat.{ℕ, zero, suc, ◌+◌, ◌-◌, ◌*◌, ◌/◌, ◌%◌, ◌^◌, ◌≤◌, ◌<◌}
use native.Mathlib.Nat.{div-div-eq-div-mul, div-eq_of_lt, div-one, pow-suc}
use native.Mathlib.Omega.{arith}
use native.Mathlib.Decide.{dec_le, dec_lt}
use lib.ListN.{length, get_or, drop, replicate, length-replicate, get_or-replicate, get_or-append}
use lib.Seq.{drop_at}
use Rattle.image.specs.Bit.{bit_of}
use Rattle.btree.specs.Lists.{◌∈◌, span}
use Rattle.btree.specs.Decide.{dec_mem}
use Rattle.btree.specs.Layout.{Layout}
use Rattle.btree.specs.Tree.{reached}
use Rattle.btree.specs.Header.{Format, view_of}
use Rattle.btree.specs.Tests.{bit_for}
use Rattle.btree.specs.Work.{bits_for, bitmap, untouching, sound_numbers, needed, needed_left, work_left, Leaves}
use Rattle.btree.proofs.Lists.{ones-length}
use Rattle.btree.proofs.Decisions.{cond_yes, cond_no}
use Rattle.btree.proofs.MapBits.{bit-head, bit-tail, bit-for, bit_not}

-- half of x without its k lowest bits is x without one more
one-bit-less : (x k : ℕ) → x / 2 ^ k / 2 ≡ x / 2 ^ suc k
one-bit-less x k = div-div-eq-div-mul x (2 ^ k) 2 ∙ ap (λ (p : ℕ). x / p) (sym (pow-suc 2 k))

module _ (nodes : List ℕ) where
  bit-few : (n : ℕ) → bit_for nodes n < 2
  bit-few n = go (dec_mem n nodes)
    where
      go : Dec (n ∈ nodes) → bit_for nodes n < 2
      go (yes m) = rw (bit-for nodes n m) (omega arith)
      go (no m) = rw (bit_not nodes n m) (omega arith)

  -- the top c bits of eight
  top-bits : (n x : ℕ) → x < 256 → ((j : ℕ) → j < 8 → x / 2 ^ (7 - j) % 2 ≡ bit_for nodes (n + j)) → (c : ℕ) → c ≤ 8 → x / 2 ^ (8 - c) ≡ bits_for nodes n c
  unfolding bits_for
  top-bits n x h b zero l = div-eq_of_lt h
  top-bits n x h b (suc c) l =
      let r = top-bits n x h b c (omega arith) in
      let q = b c (omega arith) in
      let e : 8 - c ≡ suc (7 - c) = omega arith in
      let f : x / 2 ^ (7 - c) / 2 ≡ x / 2 ^ (8 - c) = one-bit-less x (7 - c) ∙ ap (λ (k : ℕ). x / 2 ^ k) (sym e) in
      let g : x / 2 ^ (7 - c) ≡ 2 * (x / 2 ^ (7 - c) / 2) + x / 2 ^ (7 - c) % 2 = omega arith in
      let i : 8 - suc c ≡ 7 - c = omega arith in
      ap (λ (k : ℕ). x / 2 ^ k) i ∙ g ∙ rw (f, r, q)

  -- and the other way round
  low_bits : (n c k : ℕ) → bits_for nodes n (c + k) / 2 ^ k ≡ bits_for nodes n c
  unfolding bits_for
  low_bits n c zero = let e : c + 0 ≡ c = omega arith in rw e (div-one (bits_for nodes n c))
  low_bits n c (suc k) =
      let e : c + suc k ≡ suc (c + k) = omega arith in
      let f : 2 ^ suc k ≡ 2 * 2 ^ k = pow-suc 2 k ∙ omega arith in
      let b = bit-few (n + (c + k)) in
      let g : (2 * bits_for nodes n (c + k) + bit_for nodes (n + (c + k))) / 2 ≡ bits_for nodes n (c + k) = omega arith in
      rw (e, f) (sym (div-div-eq-div-mul (2 * bits_for nodes n (c + k) + bit_for nodes (n + (c + k))) 2 (2 ^ k)) ∙ rw g (low_bits n c k))

  bit-of-byte : (n j : ℕ) → j < 8 → bits_for nodes n 8 / 2 ^ (7 - j) % 2 ≡ bit_for nodes (n + j)
  unfolding bits_for
  bit-of-byte n j h =
      let e : 8 ≡ suc j + (7 - j) = omega arith in
      let a = ap (λ (k : ℕ). bits_for nodes n k / 2 ^ (7 - j)) e ∙ low_bits n (suc j) (7 - j) in
      let b = bit-few (n + j) in
      rw a (omega arith)

  -- bytes that have the bits of the nodes are their bitmap
  pub bitmap-is : (first : ℕ) (bits : List ℕ) → ((i : ℕ) → get_or bits i 0 < 256) → ((k : ℕ) → k < 8 * length bits → bit_of bits k ≡ bit_for nodes (8 * first + k))
      → bits ≡ span first (length bits) (λ i. bits_for nodes (8 * i) 8 ∷ [])
  bitmap-is first [] h b = refl
  bitmap-is first (x ∷ xs) h b =
      let e : x ≡ bits_for nodes (8 * first) 8 = sym (div-one x) ∙ top-bits (8 * first) x (h 0) (λ j u. sym (bit-head x xs j u) ∙ b j (omega arith)) 8 (omega arith) in
      let r = bitmap-is (suc first) xs (λ i. h (suc i)) (λ k u. sym (bit-tail x xs k) ∙ b (8 + k) (omega arith) ∙ ap (bit_for nodes) (omega arith)) in
      ap (λ (y : ℕ). y ∷ xs) e ∙ ap (λ (ys : List ℕ). bits_for nodes (8 * first) 8 ∷ ys) r

  bitmap-size : (first size : ℕ) → length (span first size (λ i. bits_for nodes (8 * i) 8 ∷ [])) ≡ size
  bitmap-size first size = ones-length first size _

  bitmap-bit : (first size k : ℕ) → k < 8 * size → bit_of (span first size (λ i. bits_for nodes (8 * i) 8 ∷ [])) k ≡ bit_for nodes (8 * first + k)
  bitmap-bit first zero k h = absurd (omega arith)
  bitmap-bit first (suc size) k h = go (dec_lt k 8) (bitmap-bit (suc first) size (k - 8))
    where
      rest : List ℕ
      rest = span (suc first) size (λ i. bits_for nodes (8 * i) 8 ∷ [])

      go : Dec (k < 8) → (k - 8 < 8 * size → bit_of rest (k - 8) ≡ bit_for nodes (8 * suc first + (k - 8))) → bit_of (bits_for nodes (8 * first) 8 ∷ rest) k ≡ bit_for nodes (8 * first + k)
      go (yes u) r = bit-head _ rest k u ∙ bit-of-byte (8 * first) k u
      go (no u) r =
          let e : k ≡ 8 + (k - 8) = omega arith in
          ap (bit_of (bits_for nodes (8 * first) 8 ∷ rest)) e ∙ bit-tail _ rest (k - 8) ∙ r (omega arith) ∙ ap (bit_for nodes) (omega arith)

  bit-iff : (b n : ℕ) → b ≡ bit_for nodes n → (b ≡ 1) ↔ (n ∈ nodes)
  bit-iff b n e = (λ h. go h (dec_mem n nodes), λ m. e ∙ bit-for nodes n m)
    where
      go : b ≡ 1 → Dec (n ∈ nodes) → n ∈ nodes
      go h (yes m) = m
      go h (no m) = let z = bit_not nodes n m in absurd (omega arith)

-- a member of a list of two numbers, or of five, is one of them
of_two : {n a b : ℕ} → n ∈ a ∷ b ∷ [] → (n ≡ a → ⊥) → (n ≡ b → ⊥) → ⊥
of_two m p q = ⊎_elim p (λ k. ⊎_elim q Memᴰ.not-nil (Memᴰ.cases_cons k)) (Memᴰ.cases_cons m)

of-five : {n a b c d e : ℕ} → n ∈ a ∷ b ∷ c ∷ d ∷ e ∷ [] → (n ≡ a → ⊥) → (n ≡ b → ⊥) → (n ≡ c → ⊥) → (n ≡ d → ⊥) → (n ≡ e → ⊥) → ⊥
of-five m p q r s t =
    ⊎_elim p (λ k. ⊎_elim q (λ x. ⊎_elim r (λ y. of_two y s t) (Memᴰ.cases_cons x)) (Memᴰ.cases_cons k)) (Memᴰ.cases_cons m)

pub sound-most : (n : ℕ) → n ∈ sound_numbers → n ≤ 12
sound-most n m = go (dec_le n 12)
  where
    go : Dec (n ≤ 12) → n ≤ 12
    go (yes h) = h
    go (no h) = absurd (of_two m (λ e. omega arith) (λ e. omega arith))

apart : (n : ℕ) → n ∈ untouching → n ∈ sound_numbers → ⊥
apart n m k =
    of-five m (λ e. of_two k (λ q. omega arith) (λ q. omega arith)) (λ e. of_two k (λ q. omega arith) (λ q. omega arith)) (λ e. of_two k (λ q. omega arith) (λ q. omega arith))
    (λ e. of_two k (λ q. omega arith) (λ q. omega arith)) (λ e. of_two k (λ q. omega arith) (λ q. omega arith))

front-bit : (a b : List ℕ) (n : ℕ) → n < 8 * length a → bit_of (a ++ b) n ≡ bit_of a n
unfolding bit_of
front-bit a b n h = rw (get_or-append a b 0 (n / 8) (omega arith))

module _ (l : Layout) (img : List ℕ) (f : Format) where
  -- which bytes are left, by the number
  pub left-untouched : (number : ℕ) (work : List ℕ) → number ∈ untouching → work_left l img f number work ≡ work
  unfolding work_left
  left-untouched number work m = cond_yes (dec_mem number untouching) _ _ m

  left-others : (number : ℕ) (work : List ℕ) → (number ∈ untouching → ⊥) → work_left l img f number work ≡ needed_left l img f number ++ drop (needed l img) work
  unfolding work_left
  left-others number work m = cond_no (dec_mem number untouching) _ _ m

  left-sound : (number : ℕ) → number ∈ sound_numbers → needed_left l img f number ≡ bitmap (reached (view_of l f img)) (needed l img)
  unfolding needed_left
  left-sound number m = cond_yes (dec_mem number sound_numbers) _ _ m

  left-unsound : (number : ℕ) → (number ∈ sound_numbers → ⊥) → needed_left l img f number ≡ replicate (needed l img) 0
  unfolding needed_left
  left-unsound number m = cond_no (dec_mem number sound_numbers) _ _ m

  -- after tests 2 to 10
  pub left-tested : (number : ℕ) (work : List ℕ) → (number ≡ 0) ⊎ ((2 ≤ number) × (number ≤ 10))
      → work_left l img f number work ≡ needed_left l img f number ++ drop (needed l img) work
  left-tested number work r =
      left-others number work
      (λ m. of-five m
      (λ e. ⊎_elim (λ z. omega arith) (λ (a, b). omega arith) r)
      (λ e. ⊎_elim (λ z. omega arith) (λ (a, b). omega arith) r)
      (λ e. ⊎_elim (λ z. omega arith) (λ (a, b). omega arith) r)
      (λ e. ⊎_elim (λ z. omega arith) (λ (a, b). omega arith) r)
      (λ e. ⊎_elim (λ z. omega arith) (λ (a, b). omega arith) r))

  pub left-zeros : (number : ℕ) → 2 ≤ number → number ≤ 10 → needed_left l img f number ≡ replicate (needed l img) 0
  left-zeros number a b = left-unsound number (λ m. of_two m (λ e. omega arith) (λ e. omega arith))

  pub left-bits : (bits : List ℕ) → length bits ≡ needed l img → ((i : ℕ) → get_or bits i 0 < 256) → ((n : ℕ) → bit_of bits n ≡ bit_for (reached (view_of l f img)) n)
      → bits ≡ needed_left l img f 0
  left-bits bits e h b =
      bitmap-is (reached (view_of l f img)) 0 bits h (λ k u. b k ∙ ap (bit_for (reached (view_of l f img))) (omega arith))
      ∙ rw e (sym (left-sound 0 (Memᴰ.head refl)))

  pub left-used : (number : ℕ) (work : List ℕ) → number ∈ sound_numbers
      → work_left l img f number work ≡ bitmap (reached (view_of l f img)) (needed l img) ++ drop (needed l img) work
  left-used number work m = left-others number work (λ u. apart number u m) ∙ rw (left-sound number m)

  pub left-cleared : (number : ℕ) (work : List ℕ) → 2 ≤ number → number ≤ 10 → work_left l img f number work ≡ replicate (needed l img) 0 ++ drop (needed l img) work
  left-cleared number work a b =
      left-tested number work (inr (a, b)) ∙ rw (left-zeros number a b)

  -- found and absent leave what the check in them leaves
  pub left-same : (number : ℕ) (work : List ℕ) → number ∈ sound_numbers → work_left l img f 0 work ≡ work_left l img f number work
  left-same number work m = left-used 0 work (Memᴰ.head refl) ∙ sym (left-used number work m)

  left-size : (number : ℕ) → length (needed_left l img f number) ≡ needed l img
  left-size number = go (dec_mem number sound_numbers)
    where
      go : Dec (number ∈ sound_numbers) → length (needed_left l img f number) ≡ needed l img
      go (yes m) = ap length (left-sound number m) ∙ bitmap-size (reached (view_of l f img)) 0 (needed l img)
      go (no m) = ap length (left-unsound number m) ∙ length-replicate (needed l img) 0

  -- bytes that are what a call leaves are as the request words it
  pub leaves : (number : ℕ) (entry exit : List ℕ) → exit ≡ work_left l img f number entry → Leaves l img f number entry exit
  leaves number entry exit e =
      record {
        exactly = e;
        untouched = λ m. e ∙ left-untouched number entry m;
        used = λ m n h. bit-iff (reached (view_of l f img)) (bit_of exit n) n (ap (λ (b : List ℕ). bit_of b n) (e ∙ left-used number entry m) ∙ front n h);
        cleared = λ a b i h. ap (λ (w : List ℕ). get_or w i 0) (e ∙ left-cleared number entry a b) ∙ zero-byte i h;
        further = ap (drop (needed l img)) e ∙ go (dec_mem number untouching);
      }
    where
      front : (n : ℕ) → n < 8 * needed l img → bit_of (bitmap (reached (view_of l f img)) (needed l img) ++ drop (needed l img) entry) n ≡ bit_for (reached (view_of l f img)) n
      front n h =
          let q = bitmap-size (reached (view_of l f img)) 0 (needed l img) in
          front-bit (bitmap (reached (view_of l f img)) (needed l img)) _ n (omega arith)
          ∙ bitmap-bit (reached (view_of l f img)) 0 (needed l img) n h ∙ ap (bit_for (reached (view_of l f img))) (omega arith)

      zero-byte : (i : ℕ) → i < needed l img → ◌≡◌ {A = ℕ} (get_or (replicate (needed l img) 0 ++ drop (needed l img) entry) i 0) 0
      zero-byte i h =
          let q = length-replicate {A = ℕ} (needed l img) 0 in
          get_or-append (replicate (needed l img) 0) (drop (needed l img) entry) 0 i (omega arith) ∙ get_or-replicate (needed l img) i 0 0 h

      go : Dec (number ∈ untouching) → drop (needed l img) (work_left l img f number entry) ≡ drop (needed l img) entry
      go (yes m) = ap (drop (needed l img)) (left-untouched number entry m)
      go (no m) = ap (drop (needed l img)) (left-others number entry m) ∙ drop_at (needed_left l img f number) (drop (needed l img) entry) (needed l img) (left-size number)
