-- The levels of a tree: what lies below a node, one level at a time, and the ranges of the tree laid down.
-- Assumes nothing.
use mathlib.Core.Path.{◌≡◌, refl, sym, ap, ◌∙◌, fun_ext}
use mathlib.Core.List.Memᴰ
use mathlib.Core.List.{List, [], ◌∷◌, ◌++◌, append-nil, append_assoc}
use Prim.Native.Nat.{ℕ, zero, suc, ◌+◌, ◌-◌, ◌≤◌, ◌<◌}
use native.Mathlib.Omega.{arith}
use lib.ListN.{length, length-append}
use Rattle.btree.specs.Lists.{◌∈◌, span, gather, last_or, Distinct}
use Rattle.btree.specs.Tree.{View, below, OnLevel, leaves_at, record_count}
use Rattle.btree.proofs.Lists.{ones-length, span-mem, mem-span, gather-span}
use Rattle.shape.specs.Shape.{first_in, entries_at, nodes_at, held, start}
use Rattle.shape.proofs.Shaped.{Deep, range, Shaped}
use Rattle.shape.proofs.Shape.{first-zero, first-suc, nodes-all, nodes-low, held-full, held-rest, leaf-nodes}

-- spans
pub span_same : {A : Type 0} (i n : ℕ) (f g : ℕ → List A) → ((j : ℕ) → i ≤ j → j < i + n → f j ≡ g j) → span i n f ≡ span i n g
span_same i zero f g h = refl
span_same i (suc n) f g h = rw (h i (omega arith) (omega arith), span_same (suc i) n f g (λ j l u. h j (omega arith) (omega arith)))

pub span-append : {A : Type 0} (i n k : ℕ) (f : ℕ → List A) → span i n f ++ span (i + n) k f ≡ span i (n + k) f
span-append i zero k f = let e : i + 0 ≡ i = omega arith in let z : 0 + k ≡ k = omega arith in rw (e, z)
span-append i (suc n) k f =
    let e : i + suc n ≡ suc i + n = omega arith in
    let z : suc n + k ≡ suc (n + k) = omega arith in
    rw (e, z, append_assoc (f i) (span (suc i) n f) (span (suc i + n) k f)) (ap (λ s. f i ++ s) (span-append (suc i) n k f))

pub span-shift : {A : Type 0} (a i n : ℕ) (f : ℕ → List A) → span i n (λ j. f (a + j)) ≡ span (a + i) n f
span-shift a i zero f = refl
span-shift a i (suc n) f =
    let e : a + suc i ≡ suc (a + i) = omega arith in
    ap (λ s. f (a + i) ++ s) (span-shift a (suc i) n f ∙ ap (λ k. span k n f) e)

pub range_length : (a n : ℕ) → length (range a n) ≡ n
range_length a zero = refl
range_length a (suc n) = ap suc (range_length (suc a) n)

pub range-in : {x : ℕ} (a n : ℕ) → x ∈ range a n → (a ≤ x) × (x < a + n)
range-in a n m = let (j, l, u, w) = span-mem a n (λ k. k ∷ []) m in let e = Memᴰ.eq_of_singleton w in (omega arith, omega arith)

pub in-range : {x : ℕ} (a n : ℕ) → a ≤ x → x < a + n → x ∈ range a n
in-range {x} a n l u = mem-span a n x (λ k. k ∷ []) l u (Memᴰ.head refl)

pub range-once : (a n : ℕ) → Distinct (range a n)
range-once a zero = tt
range-once a (suc n) = (λ m. let (l, u) = range-in (suc a) n m in omega arith, range-once (suc a) n)

pub range_last : (p a n : ℕ) → last_or p (range a (suc n)) ≡ a + n
range_last p a zero = omega arith
range_last p a (suc n) = range_last a (suc a) n ∙ omega arith

-- what the nodes of a height give, one after another, where each gives what g gives of its entries
module _ {A : Type 0} (m r h : ℕ) (f g : ℕ → List A) (each : (k : ℕ) → k < nodes_at r h → f (start m r h + k) ≡ span (first_in h k) (held r h k) g) where
  entries_from : (k c : ℕ) → k + c ≡ nodes_at r h → gather f (range (start m r h + k) c) ≡ span (first_in h k) (entries_at r h - first_in h k) g
  entries_from k zero e =
      let a = nodes-all r h k (omega arith) in
      let z : entries_at r h - first_in h k ≡ 0 = omega arith in
      rw z
  entries_from k (suc c) e = go c e (entries_from (suc k) c (omega arith))
    where
      go : (c : ℕ) → k + suc c ≡ nodes_at r h → gather f (range (start m r h + suc k) c) ≡ span (first_in h (suc k)) (entries_at r h - first_in h (suc k)) g
          → f (start m r h + k) ++ gather f (range (suc (start m r h + k)) c) ≡ span (first_in h k) (entries_at r h - first_in h k) g
      go zero e i =
          let a = held-rest r h k (omega arith) in
          let z : entries_at r h - first_in h k ≡ held r h k = omega arith in
          append-nil (f (start m r h + k)) ∙ each k (omega arith) ∙ ap (λ n. span (first_in h k) n g) (sym z)
      go (suc c) e i =
          let a = held-full r h k (omega arith) in
          let b = first-suc h k in
          let w = nodes-low r h (suc k) (omega arith) in
          let z : suc (start m r h + k) ≡ start m r h + suc k = omega arith in
          let y : first_in h (suc k) ≡ first_in h k + held r h k = omega arith in
          let x : held r h k + (entries_at r h - first_in h (suc k)) ≡ entries_at r h - first_in h k = omega arith in
          ap (λ t. f (start m r h + k) ++ gather f (range t (suc c))) z
          ∙ ap (λ t. f (start m r h + k) ++ t) i
          ∙ ap (λ t. t ++ span (first_in h (suc k)) (entries_at r h - first_in h (suc k)) g) (each k (omega arith))
          ∙ ap (λ t. span (first_in h k) (held r h k) g ++ span t (entries_at r h - first_in h (suc k)) g) y
          ∙ span-append (first_in h k) (held r h k) (entries_at r h - first_in h (suc k)) g
          ∙ ap (λ n. span (first_in h k) n g) x

  pub all-entries : gather f (range (start m r h) (nodes_at r h)) ≡ span 0 (entries_at r h) g
  all-entries =
      let z : start m r h + 0 ≡ start m r h = omega arith in
      let x : entries_at r h - first_in h 0 ≡ entries_at r h = omega (arith, first-zero h) in
      ap (λ t. gather f (range t (nodes_at r h))) (sym z) ∙ entries_from 0 (nodes_at r h) (omega arith)
      ∙ ap (λ t. span t (entries_at r h - first_in h 0) g) (first-zero h) ∙ ap (λ n. span 0 n g) x

-- a span from another start, entry by entry
pub span-move : {A : Type 0} (a n : ℕ) (f g : ℕ → List A) → ((i : ℕ) → i < n → f i ≡ g (a + i)) → span 0 n f ≡ span a n g
span-move a n f g e =
    let z : a + 0 ≡ a = omega arith in
    span_same 0 n f (λ i. g (a + i)) (λ i l u. e i (omega arith)) ∙ span-shift a 0 n g ∙ ap (λ t. span t n g) z

pub marks-length : (i n : ℕ) → length {A = ℕ} (span i n (λ j. 0 ∷ [])) ≡ n
marks-length i n = ones-length i n (λ j. 0)

module _ (v : View) where
  open v use {depth, root, count, child, forward, back}

  -- one level more is the children of all on a level
  pub below_last : (d n : ℕ) → below v (suc d) n ≡ gather (below v 1) (below v d n)
  below_last zero n = sym (append-nil (below v 1 n))
  below_last (suc d) n =
      ap (span 0 (count n)) (fun_ext (λ i. below_last d (child n i)))
      ∙ sym (gather-span (below v 1) 0 (count n) (λ i. below v d (child n i)))

  -- as many as the records of the nodes
  pub counts-length : {A : Type 0} (f : ℕ → List A) → ((n : ℕ) → length (f n) ≡ count n) → (ns : List ℕ) → length (gather f ns) ≡ record_count v ns
  counts-length f e [] = refl
  counts-length f e (n ∷ ns) = length-append (f n) (gather f ns) ∙ rw (e n, counts-length f e ns)

  module _ (K : ℕ → ℕ) (m r D : ℕ) (deep : Deep r D) (s : Shaped v K m r D) where
    -- the children of a level are the level below
    children : (h : ℕ) → suc h < D → gather (below v 1) (range (start m r (suc h)) (nodes_at r (suc h))) ≡ range (start m r h) (nodes_at r h)
    children h l =
        all-entries m r (suc h) (below v 1) (λ q. (start m r h + q) ∷ []) (λ k u.
        rw (s.count (suc h) k l u) (span-move (first_in (suc h) k) (held r (suc h) k) _ (λ q. (start m r h + q) ∷ []) (λ i a. ap (λ x. x ∷ []) (s.child h k i l u a))))
        ∙ span-move (start m r h) (nodes_at r h) (λ q. (start m r h + q) ∷ []) (λ q. q ∷ []) (λ i a. refl)

    -- a level is a range of numbers
    pub level : (d h : ℕ) → d + suc h ≡ D → below v d root ≡ range (start m r h) (nodes_at r h)
    level zero h e = rw (s.root h (omega arith), deep.top h (omega arith))
    level (suc d) h e = below_last d root ∙ ap (gather (below v 1)) (level d (suc h) (omega arith)) ∙ children h (omega arith)

    pub leaves : (D' : ℕ) → D ≡ D' → leaves_at v D' ≡ range (start m r 0) (nodes_at r 0)
    leaves zero e = let a = leaf-nodes r in let z : nodes_at r 0 ≡ 0 = omega (arith, deep.none e) in rw z
    leaves (suc h) e = level h 0 (omega arith)

    -- where a node of height h stands: which of its level
    pub record Spot (h n : ℕ) : Type 0 where
      pub index : ℕ
      pub numbered : n ≡ start m r h + index
      pub inside : index < nodes_at r h

    pub spot : (d h n : ℕ) → d + suc h ≡ D → OnLevel v d n → Spot h n
    spot d h n e o =
        let (a, b) = range-in (start m r h) (nodes_at r h) (rw (level d h e) at o.among) in
        record { index = n - start m r h; numbered = omega arith; inside = omega arith }
