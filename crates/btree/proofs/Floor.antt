-- The leaf record with the highest key not above another key: in a sound tree the leaf where that key's search path ends has it.
-- Assumes nothing.
use mathlib.Core.Path.{◌≡◌, refl, sym, ap, ◌∙◌}
use mathlib.Core.Logic.{◌↔◌}
use mathlib.Core.Option.{Option, none, some}
use mathlib.Core.List.Memᴰ
use mathlib.Core.List.{[], ◌∷◌}
use Prim.Native.Nat.{ℕ, zero, suc, ◌+◌, ◌≤◌, ◌<◌}
use native.Mathlib.Omega.{arith}
use native.Mathlib.Decide.{dec_le, dec_lt}
use lib.ListN.{length}
use Rattle.btree.specs.declared.Answer.{Answer}
use Rattle.btree.specs.declared.Answer.TheVariants.{Found, Absent, Refused}
use Rattle.btree.specs.declared.Place.{Place}
use Rattle.btree.specs.Lists.{◌∈◌, last_of, from_option}
use Rattle.btree.specs.Tree.{View, Rec, below, leaves_at, OnLevel, SoundTree, LeafTotals}
use Rattle.btree.specs.Search.{place_of, record_of, leaf_list, Highest, highest_of, path_from, path_at, path_of, Floor, AtPathEnd, floor_of}
use Rattle.btree.proofs.Lists.{span-mem}
use Rattle.btree.proofs.Leaves.{on-root, on-child, keys-mono, keys-le, keys-apart}
use Rattle.btree.proofs.Paths.{last-push, last-pop, highest-some, highest-none, path-below, path-leaf, leaf-stands, leaf-listed, leaf_list-once}
use Rattle.btree.proofs.Floors.{Down, floor-told, floor-answers}

module _ (v : View) (s : SoundTree v) (k : ℕ) where
  open v use {depth, root, count, key, child}

  -- where a node's pointer p is taken, no key below another pointer that is not above k is above those below p
  other-pointer : (h d n p q m i m' j : ℕ) → OnLevel v d n → d + suc h < depth → Highest v n k p → m ∈ below v h (child n p) → i < count m
      → q < count n → m' ∈ below v h (child n q) → j < count m' → key m' j ≤ k → (q ≡ p → key m' j ≤ key m i) → key m' j ≤ key m i
  other-pointer h d n p q m i m' j o l b c u w c' u' le same = go (dec_lt q p) (dec_lt p q)
    where
      go : Dec (q < p) → Dec (p < q) → key m' j ≤ key m i
      go (yes a) z = let apart = keys-apart v s h d n q p m' j m i o l a b.inside c' u' c u in omega arith
      go (no a) (yes z) =
          let low = s.path_low d n q h m' j o w l c' u' in
          let most = b.highest q w (omega arith) in
          let more = keys-mono v s d n p q o z w in
          absurd (omega arith)
      go (no a) (no z) = same (omega arith)

  -- a path that comes down to a leaf comes to the one with the highest key not above k
  highest-below : (h d n m i : ℕ) → OnLevel v d n → d + h < depth → length (path_from v h k n) ≡ suc h → last_of (path_from v h k n) ≡ some m → Highest v m k i
      → (m' j : ℕ) → m' ∈ below v h n → j < count m' → key m' j ≤ k → key m' j ≤ key m i
  highest-below zero d n m i o l w e b m' j c u le =
      let q : n ≡ m = cc in
      let r = Memᴰ.eq_of_singleton c in
      let f = b.highest j in
      rw (r, q) (f (rw (r, q) at u) (rw (r, q) at le))
  highest-below (suc h) d n m i o l w e b m' j c u le =
      go (highest_of v n k (count n)) (highest-some v n k) w e
      (λ p a w e c. highest-below h (suc d) (child n p) m i (on-child v d n p o a (omega arith)) (omega arith) w e b m' j c u le)
    where
      go : (t : Option ℕ) → ((p : ℕ) → t ≡ some p → Highest v n k p) → length (n ∷ from_option t (λ p. path_from v h k (child n p))) ≡ suc (suc h)
          → last_of (n ∷ from_option t (λ p. path_from v h k (child n p))) ≡ some m
          → ((p : ℕ) → p < count n → length (path_from v h k (child n p)) ≡ suc h → last_of (path_from v h k (child n p)) ≡ some m → m' ∈ below v h (child n p) → key m' j ≤ key m i)
          → key m' j ≤ key m i
      go none f w' e' r = absurd (omega arith)
      go (some p) f w' e' r =
          let x = f p refl in
          let w'' : length (path_from v h k (child n p)) ≡ suc h = omega arith in
          let e'' = last-pop n m h (path_from v h k (child n p)) w'' e' in
          let (q, _, a, c') = span-mem 0 (count n) (λ p. below v h (child n p)) c in
          other-pointer h d n p q m i m' j o (omega arith) x (path-below v h k (child n p) m w'' e'') b.inside (omega arith) c' u le
          (λ z. r p x.inside w'' e'' (rw z at c'))

  -- no key below a node is below its first
  first-least : (h d n m j : ℕ) → OnLevel v d n → d + h < depth → m ∈ below v h n → j < count m → key n 0 ≤ key m j
  first-least zero d n m j o l b u = let e = Memᴰ.eq_of_singleton b in rw e (keys-le v s d n 0 j o (omega arith) (rw e at u))
  first-least (suc h) d n m j o l b u =
      let (i, _, a, c) = span-mem 0 (count n) (λ i. below v h (child n i)) b in
      let low = s.path_low d n i h m j o (omega arith) (omega arith) c u in
      let first = keys-le v s d n 0 i o (omega arith) (omega arith) in
      omega arith

  module _ (filled : (d n : ℕ) → OnLevel v d n → 0 < count n) where
    -- as pointer keys are first keys, a path that can take its first step can take all
    path-down : (h d n : ℕ) → OnLevel v d n → d + h < depth → key n 0 ≤ k → Down v k (suc h) (path_from v h k n)
    path-down zero d n o l u = go (highest_of v n k (count n)) (highest-some v n k) (highest-none v n k)
      where
        go : (t : Option ℕ) → ((i : ℕ) → t ≡ some i → Highest v n k i) → (t ≡ none → (j : ℕ) → j < count n → k < key n j) → Down v k 1 (n ∷ [])
        go none f g = let z = g refl 0 (filled d n o) in absurd (omega arith)
        go (some i) f g = (refl, (n, i, refl, f i refl))
    path-down (suc h) d n o l u =
        go (highest_of v n k (count n)) (highest-some v n k) (highest-none v n k)
        (λ p a b. let c = on-child v d n p o a (omega arith) in
        let e = s.pointer_keys d n p o a (omega arith) (filled (suc d) (child n p) c) in
        path-down h (suc d) (child n p) c (omega arith) (omega arith))
      where
        go : (t : Option ℕ) → ((p : ℕ) → t ≡ some p → Highest v n k p) → (t ≡ none → (j : ℕ) → j < count n → k < key n j)
            → ((p : ℕ) → p < count n → key n p ≤ k → Down v k (suc h) (path_from v h k (child n p)))
            → Down v k (suc (suc h)) (n ∷ from_option t (λ p. path_from v h k (child n p)))
        go none f g r = let z = g refl 0 (filled d n o) in absurd (omega arith)
        go (some p) f g r =
            let b = f p refl in
            let (w, (m, i, e, x)) = r p b.inside b.not_above in
            (ap suc w, (m, i, last-push n m (path_from v h k (child n p)) e, x))

    module _ (t : LeafTotals v) where
      -- where a leaf record is not above k, the path of k comes down to a leaf that has one
      path-whole : (x : Rec) → x ∈ leaf_list v → x.key ≤ k → Down v k depth (path_of v k)
      path-whole x a u = go depth refl (leaf-stands v s t x a).leaf
        where
          go : (h : ℕ) → depth ≡ h → x.node ∈ leaves_at v h → Down v k h (path_at v h k)
          go zero e m = absurd (Memᴰ.not-nil m)
          go (suc h) e m =
              let q = leaf-stands v s t x a in
              let is = q.is_key in
              let first = first-least h 0 root x.node x.number (on-root v (omega arith)) (omega arith) m q.inside in
              path-down h 0 root (on-root v (omega arith)) (omega arith) (omega arith)

      end-floor : (x : Rec) → AtPathEnd v k x → Floor v k x
      end-floor x p =
          let is = p.is_key in
          let b = p.highest in
          let l = leaf-listed v s t x.node x.number (path-leaf v s depth k x.node p.whole p.ends) b.inside in
          record {
            listed = rw (is, p.is_offset) at l;
            not_above = omega (arith, b.not_above);
            highest = λ y a u.
                let q = leaf-stands v s t y a in
                let own = q.is_key in
                let r = at depth refl p.whole p.ends y.node y.number q.leaf q.inside (omega arith) in
                omega arith;
          }
        where
          at : (h : ℕ) → depth ≡ h → length (path_at v h k) ≡ h → last_of (path_at v h k) ≡ some x.node
              → (m j : ℕ) → m ∈ leaves_at v h → j < count m → key m j ≤ k → key m j ≤ key x.node x.number
          at zero d w e m j c u le = absurd (Memᴰ.not-nil c)
          at (suc h) d w e m j c u le = highest-below h 0 root x.node x.number (on-root v (omega arith)) (omega arith) w e p.highest m j c u le

      pub floor-once : (x y : Rec) → Floor v k x → Floor v k y → x ≡ y
      floor-once x y f g =
          let low = f.highest y g.listed g.not_above in
          let high = g.highest x f.listed f.not_above in
          leaf_list-once v s t x y f.listed g.listed (omega arith)

      floor-end : (x : Rec) → Floor v k x → AtPathEnd v k x
      floor-end x f =
          let (w, (m, i, e, b)) = path-whole x f.listed f.not_above in
          let p : AtPathEnd v k (record_of v m i) = record { whole = w; ends = e; highest = b; is_offset = refl; is_key = refl } in
          rw (floor-once _ x (end-floor _ p) f) at p

      -- of all leaf records the one with the highest key not above k is the one with the highest key not above k in the leaf where the path of k ends
      pub floor-iff : (x : Rec) → Floor v k x ↔ AtPathEnd v k x
      floor-iff x = (floor-end x, end-floor x)

      all_above : (Down v k depth (path_of v k) → ⊥) → (x : Rec) → x ∈ leaf_list v → k < x.key
      all_above f x a = go (dec_le x.key k)
        where
          go : Dec (x.key ≤ k) → k < x.key
          go (yes u) = absurd (f (path-whole x a u))
          go (no u) = omega arith

      -- and the path is cut short only where every leaf record's key is above k
      pub cut_short : length (path_of v k) < depth → (x : Rec) → x ∈ leaf_list v → k < x.key
      cut_short l = all_above (λ (w, d). omega arith)

      found-floor : (p : Place) → floor_of v k ≡ Found p → (x : Rec) × Floor v k x × (place_of x ≡ p)
      found-floor p e =
          let (w, (m, i, l, b, q)) = floor-told v k depth (Found p) e in
          (record_of v m i, end-floor _ (record { whole = w; ends = l; highest = b; is_offset = refl; is_key = refl }), q)

      absent-floor : (n : ℕ) → floor_of v k ≡ Absent n → (x : Rec) → x ∈ leaf_list v → k < x.key
      absent-floor n e = all_above (floor-told v k depth (Absent n) e)

      -- the descent for it finds that record, by its start
      pub floor-found : (p : Place) → (floor_of v k ≡ Found p) ↔ ((x : Rec) × Floor v k x × (place_of x ≡ p))
      floor-found p = (found-floor p, λ (x, f, e). go x f e (floor_of v k) refl)
        where
          go : (x : Rec) → Floor v k x → place_of x ≡ p → (a : Answer) → floor_of v k ≡ a → a ≡ Found p
          go x f e (Found q) w = let (y, g, z) = found-floor q w in ap Found (sym z ∙ ap place_of (floor-once y x g f) ∙ e)
          go x f e (Absent n) w = let z = absent-floor n w x f.listed in let y = f.not_above in absurd (omega arith)
          go x f e (Refused a b) w = absurd (floor-answers v k a b w)

      -- and says absent exactly where there is none
      pub floor-absent : ((n : ℕ) × (floor_of v k ≡ Absent n)) ↔ ((x : Rec) → x ∈ leaf_list v → k < x.key)
      floor-absent = (λ (n, e). absent-floor n e, λ f. go f (floor_of v k) refl)
        where
          go : ((x : Rec) → x ∈ leaf_list v → k < x.key) → (a : Answer) → floor_of v k ≡ a → (n : ℕ) × (a ≡ Absent n)
          go f (Found q) w = let (x, g, z) = found-floor q w in let y = f x g.listed in let u = g.not_above in absurd (omega arith)
          go f (Absent n) w = (n, refl)
          go f (Refused a b) w = absurd (floor-answers v k a b w)
