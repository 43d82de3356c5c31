-- What the descent says of the record with the highest key not above another key, in any tree: found where the path of that key comes down to a node that has
-- one, and else absent.
-- Assumes nothing.
use mathlib.Core.Path.{◌≡◌, refl, ap, subst}
use mathlib.Core.Option.{Option, none, some}
use mathlib.Core.List.{List, [], ◌∷◌}
use Prim.Native.Nat.{ℕ, zero, suc, ◌<◌}
use native.Mathlib.Omega.{arith}
use lib.ListN.{length}
use Rattle.btree.specs.declared.Answer.{Answer}
use Rattle.btree.specs.declared.Answer.TheVariants.{Found, Absent, Refused}
use Rattle.btree.specs.declared.Place.{Place}
use Rattle.btree.specs.Places.{record_place}
use Rattle.btree.specs.Lists.{◌∈◌, last_of, from_option}
use Rattle.btree.specs.Tree.{View}
use Rattle.btree.specs.Numbers.{lookup_reply}
use Rattle.btree.specs.Work.{sound_numbers}
use Rattle.btree.specs.Search.{Highest, highest_of, path_from, path_at, in_leaf, in_index, floor_from, floor_at, floor_of}
use Rattle.btree.proofs.Paths.{last-push, last-pop, highest-some, highest-none}
use Rattle.btree.proofs.Answers.{answered}

module _ (v : View) (k : ℕ) where
  open v use {root, count, key, child}

  -- a path of so many nodes, the last of which has a record not above k
  abbrev pub Down : ℕ → List ℕ → Type 0
  Down c ns = (length ns ≡ c) × ((m : ℕ) × (i : ℕ) × (last_of ns ≡ some m) × Highest v m k i)

  -- what an answer says of a path that should have so many nodes
  abbrev pub Says : ℕ → List ℕ → Answer → Type 0
  Says c ns (Found p) = (length ns ≡ c) × ((m : ℕ) × (i : ℕ) × (last_of ns ≡ some m) × Highest v m k i × (record_place v m i ≡ p))
  Says c ns (Absent n) = Down c ns → ⊥
  Says c ns (Refused a b) = ⊥

  says-leaf : (n : ℕ) (o : Option ℕ) → ((i : ℕ) → o ≡ some i → Highest v n k i) → (o ≡ none → (j : ℕ) → j < count n → k < key n j) → Says 1 (n ∷ []) (in_leaf v n o)
  says-leaf n none f g = λ (w, (m, i, e, x)). let q : m ≡ n = cc in above i (subst (λ (m : ℕ). Highest v m k i) q x)
    where
      above : (i : ℕ) → Highest v n k i → ⊥
      above i x = let z = g refl i x.inside in let y = x.not_above in omega arith
  says-leaf n (some i) f g = (refl, (n, i, refl, f i refl, refl))

  -- with a node before it
  says_on : (h n : ℕ) (ns : List ℕ) (a : Answer) → Says (suc h) ns a → Says (suc (suc h)) (n ∷ ns) a
  says_on h n ns (Found p) (w, (m, i, e, x, q)) = (ap suc w, (m, i, last-push n m ns e, x, q))
  says_on h n ns (Absent a) f = λ (w, (m, i, e, x)). let l : length ns ≡ suc h = omega arith in f (l, (m, i, last-pop n m h ns l e, x))
  says_on h n ns (Refused a b) z = z

  floor-below : (h n : ℕ) → Says (suc h) (path_from v h k n) (floor_from v h k n)
  floor-below zero n = says-leaf n (highest_of v n k (count n)) (highest-some v n k) (highest-none v n k)
  floor-below (suc h) n = go (highest_of v n k (count n)) (λ i. floor-below h (child n i))
    where
      go : (o : Option ℕ) → ((i : ℕ) → Says (suc h) (path_from v h k (child n i)) (floor_from v h k (child n i)))
          → Says (suc (suc h)) (n ∷ from_option o (λ i. path_from v h k (child n i))) (in_index v n o (λ i. floor_from v h k (child n i)))
      go none r = λ (w, d). omega arith
      go (some i) r = says_on h n (path_from v h k (child n i)) (floor_from v h k (child n i)) (r i)

  floor-says : (h : ℕ) → Says h (path_at v h k) (floor_at v h k)
  floor-says zero = λ (w, (m, i, e, x)). let z : ◌≡◌ {A = ℕ} 0 1 = cc in omega arith
  floor-says (suc h) = floor-below h root

  -- so of the whole tree, where the answer is known
  pub floor-told : (h : ℕ) (a : Answer) → floor_at v h k ≡ a → Says h (path_at v h k) a
  floor-told h a e = subst (Says h (path_at v h k)) e (floor-says h)

module _ (v : View) where
  open v use {depth}

  -- the descent never refuses
  pub floor-answers : (k a : ℕ) (b : Place) → floor_of v k ≡ Refused a b → ⊥
  floor-answers k a b = floor-told v k depth (Refused a b)

  pub floor-number : (k : ℕ) → (lookup_reply (floor_of v k)).number ∈ sound_numbers
  floor-number k = answered (floor_of v k) (floor-answers k)
