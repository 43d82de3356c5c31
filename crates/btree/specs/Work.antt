-- W-206: the working bytes that a caller lends: how many an image needs, what a check answers where so many are lent, and what a call leaves in them.
-- Assumes nothing.
use Rattle.std.specs.Prelude.{◌≡◌, ◌≢◌, ◌↔◌, List, [], ◌∷◌, ◌++◌, ℕ, zero, suc, ◌+◌, ◌*◌, ◌/◌, ◌≤◌, ◌<◌, length, get_or, drop, replicate}
use Rattle.std.proofs.Math.Decide.{dec_le}
use Rattle.image.specs.Bit.{bit_of}
use Rattle.btree.specs.declared.Verdict.{Verdict}
use Rattle.btree.specs.Places.{image_start}
use Rattle.btree.specs.Lists.{◌∈◌, span}
use Rattle.btree.specs.Decide.{cond, says, dec_mem}
use Rattle.btree.specs.Layout.{Layout}
use Rattle.btree.specs.Tree.{reached}
use Rattle.btree.specs.Header.{Format, view_of}
use Rattle.btree.specs.Image.{Lengths, Sound}
use Rattle.btree.specs.Walk.{fails, unless}
use Rattle.btree.specs.Tests.{bit_for, dec_lengths, verdict}

-- the bits of c nodes from n on as one number, "top bit first"
unfoldable pub bits_for : List ℕ → ℕ → ℕ → ℕ
bits_for nodes n zero = 0
bits_for nodes n (suc c) = 2 * bits_for nodes n c + bit_for nodes (n + c)

-- so many bytes with "set bits for exactly the nodes in use"
abbrev pub bitmap : List ℕ → ℕ → List ℕ
bitmap nodes size = span 0 size (λ i. bits_for nodes (8 * i) 8 ∷ [])

-- the numbers of a refusal before the bytes are used: "on these four nothing is touched"; W-211: nor on 25
abbrev pub untouching : List ℕ
untouching = 25 ∷ 11 ∷ 15 ∷ 1 ∷ 16 ∷ []

-- "a sound verdict, also within a lookup": found, which is 0 too, and absent
abbrev pub sound_numbers : List ℕ
sound_numbers = 0 ∷ 12 ∷ []

module _ (l : Layout) (img : List ℕ) where
  -- "one bit a node": so many bytes
  abbrev pub needed : ℕ
  needed = (length img / l.node_size + 7) / 8

  -- "Fewer than the nodes need", of an image whose length is right
  pub record TooFew (lent : ℕ) : Type 0 where
    pub lengths : Lengths l img
    pub fewer : lent < needed

  module _ (f : Format) where
    -- "Fewer than the nodes need: 16, tested after 11, 15 and 1", where so many bytes are lent
    unfoldable pub checked : ℕ → Verdict
    checked lent =
        unless (says (dec_lengths l img)) (fails 1 image_start)
        (unless (says (dec_le needed lent)) (fails 16 image_start)
        (verdict l img f))

    -- what a check says of any image where so many bytes are lent
    pub record CheckSays (lent : ℕ) (r : Verdict) : Type 0 where
      -- "The check calls an image sound exactly when it keeps the rules"
      pub sound : (r.number ≡ 0) ↔ (Sound l img f × (needed ≤ lent))
      -- "Fewer than the nodes need: 16", and 16 says nothing else
      pub of_few : TooFew lent → r ≡ fails 16 image_start
      pub only_few : r.number ≡ 16 → TooFew lent
      -- "and otherwise names the first fault in the order of tests"
      pub of_others : (TooFew lent → ⊥) → r ≡ verdict l img f
      -- "Demands 2 and 3 hold for every call that lends at least the needed bytes, and no such check or lookup answers 16."
      pub of_enough : needed ≤ lent → (r ≡ verdict l img f) × (r.number ≢ 16)

    -- the needed bytes after an answer of this number
    unfoldable pub needed_left : ℕ → List ℕ
    needed_left number = cond (dec_mem number sound_numbers) (bitmap (reached (view_of l f img)) needed) (replicate needed 0)

    -- what a call that answers this number leaves in the bytes lent to it
    unfoldable pub work_left : ℕ → List ℕ → List ℕ
    work_left number work = cond (dec_mem number untouching) work (needed_left number ++ drop needed work)

    -- the same, and what it comes to
    pub record Leaves (number : ℕ) (entry exit : List ℕ) : Type 0 where
      pub exactly : exit ≡ work_left number entry
      -- "on these four nothing is touched", nor on 25
      pub untouched : number ∈ untouching → exit ≡ entry
      -- "After a sound verdict, also within a lookup, the needed bytes have set bits for exactly the nodes in use"
      pub used : number ∈ sound_numbers → (n : ℕ) → n < 8 * needed → (bit_of exit n ≡ 1) ↔ (n ∈ reached (view_of l f img))
      -- "after any fault of 2 to 10 they are zero"
      pub cleared : 2 ≤ number → number ≤ 10 → (i : ℕ) → i < needed → get_or exit i 0 ≡ 0
      -- "Further bytes stay."
      pub further : drop needed exit ≡ drop needed entry
