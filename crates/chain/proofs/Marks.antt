-- A bitmap as the set of the nodes whose bits are set.
-- Assumes nothing.
use mathlib.Core.Path.{◌≡◌, refl, sym, ◌∙◌}
use mathlib.Core.Logic.{⊎_elim}
use mathlib.Core.Bool.{Bool, true, false}
use mathlib.Core.List.Memᴰ
use mathlib.Core.List.{List, [], ◌∷◌}
use Prim.Native.Nat.{ℕ, ◌/◌, ◌<◌}
use native.Mathlib.Decide.{ℕ_discrete}
use borrow.Author.Tests.{eq-eqb, ne_eqb}
use lib.ListN.{length, replicate}
use Rattle.image.specs.Bit.{bit_of}
use Rattle.image.specs.Set.{member, with_bit}
use Rattle.image.proofs.Laws.{member-bit, nonmember-bit, member-mark, bit-clear}
use Rattle.btree.specs.Lists.{◌∈◌}
use Rattle.btree.specs.Decide.{says, dec_mem}
use Rattle.btree.specs.Tests.{bit_for}
use Rattle.btree.proofs.Decisions.{says-yes, says-no}
use Rattle.btree.proofs.MapBits.{bit-for, bit_not, bit-same}
use Rattle.chain.specs.Frame.{Marks}

same_bit : (a b : List ℕ) (m : ℕ) → member a m ≡ member b m → bit_of a m ≡ bit_of b m
same_bit a b m e = go (member b m) refl
  where
    go : (t : Bool) → member b m ≡ t → bit_of a m ≡ bit_of b m
    go true q = member-bit a m (e ∙ q) ∙ sym (member-bit b m q)
    go false q = nonmember-bit a m (e ∙ q) ∙ sym (nonmember-bit b m q)

-- no bit is set in cleared bytes
pub marks-none : (k : ℕ) → Marks (replicate k 0) []
marks-none k m = bit-clear k m ∙ sym (bit_not [] m Memᴰ.not-nil)

-- to mark a node adds it
pub marks-more : (bits ns : List ℕ) (n : ℕ) → n / 8 < length bits → Marks bits ns → Marks (with_bit bits n) (n ∷ ns)
marks-more bits ns n h k m = go (ℕ_discrete m n)
  where
    go : Dec (m ≡ n) → bit_of (with_bit bits n) m ≡ bit_for (n ∷ ns) m
    go (yes e) = member-bit (with_bit bits n) m (member-mark bits n m h ∙ rw (eq-eqb m n e)) ∙ sym (bit-for (n ∷ ns) m (Memᴰ.head e))
    go (no ne) =
        same_bit (with_bit bits n) bits m (member-mark bits n m h ∙ rw (ne_eqb m n ne))
        ∙ k m ∙ bit-same ns (n ∷ ns) m Memᴰ.tail (λ x. ⊎_elim (λ e. absurd (ne e)) (λ y. y) (Memᴰ.cases_cons x))

-- the order of the nodes does not matter
pub marks-same : (bits xs ys : List ℕ) → ((m : ℕ) → m ∈ xs → m ∈ ys) → ((m : ℕ) → m ∈ ys → m ∈ xs) → Marks bits xs → Marks bits ys
marks-same bits xs ys f g k m = k m ∙ bit-same xs ys m (f m) (g m)

-- `has` decides whether a node is one of them
pub member-says : (bits ns : List ℕ) → Marks bits ns → (n : ℕ) → member bits n ≡ says (dec_mem n ns)
unfolding member
member-says bits ns k n = go (dec_mem n ns)
  where
    go : Dec (n ∈ ns) → member bits n ≡ says (dec_mem n ns)
    go (yes w) = eq-eqb (bit_of bits n) 1 (k n ∙ bit-for ns n w) ∙ sym (says-yes (dec_mem n ns) w)
    go (no nw) = rw (k n ∙ bit_not ns n nw) (sym (says-no (dec_mem n ns) nw))
