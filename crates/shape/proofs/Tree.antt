-- A view with the numbers of the shape is of a sound tree, with right totals.
-- Assumes nothing.
use mathlib.Core.Path.{◌≡◌, refl, sym, ap, ◌∙◌, subst}
use mathlib.Core.Logic.{◌≢◌}
use mathlib.Core.List.Memᴰ
use mathlib.Core.List.{List, [], ◌∷◌}
use Prim.Native.Nat.{ℕ, zero, suc, ◌+◌, ◌-◌, ◌≤◌, ◌<◌}
use native.Mathlib.Omega.{arith}
use native.Mathlib.Decide.{ℕ_discrete}
use lib.ListN.{length}
use Rattle.btree.specs.Lists.{◌∈◌, span, gather, head0, last_or}
use Rattle.btree.specs.Tree.{View, below, OnLevel, leaves_at, Linked, record_count, SoundTree, LeafTotals}
use Rattle.btree.proofs.Lists.{span-mem}
use Rattle.shape.specs.Shape.{fanout, first_in, record_under, entries_at, nodes_at, held, start}
use Rattle.shape.proofs.Shaped.{Deep, range, Shaped}
use Rattle.shape.proofs.Shape.{first-suc, row-mono, row-le, row_step, row_inside, held-most, held-inside, held-some, start-low, start-mono, leaf-nodes, nodes-some}
use Rattle.shape.proofs.Levels.{range-in, range-once, range_last, all-entries, span-move, counts-length, marks-length, level, leaves, Spot, spot}

module _ (v : View) (K : ℕ → ℕ) (m r D : ℕ) (deep : Deep r D) (s : Shaped v K m r D) (rise : (p q : ℕ) → p < q → q < r → K p < K q) where
  open v use {depth, root, count, child, forward, back}

  keys-le : (p q : ℕ) → p ≤ q → q < r → K p ≤ K q
  keys-le p q l u = go (ℕ_discrete p q)
    where
      go : Dec (p ≡ q) → K p ≤ K q
      go (yes e) = rw e (omega arith)
      go (no ne) = let a = rise p q (omega arith) u in omega arith

  abbrev At : ℕ → ℕ → Type 0
  At h n = Spot v K m r D deep s h n

  count_at : (h n : ℕ) → h < D → (p : At h n) → count n ≡ held r h p.index
  count_at h n l p = ap count p.numbered ∙ s.count h p.index l p.inside

  key-at : (h n i : ℕ) → h < D → (p : At h n) → i < count n → v.key n i ≡ K (record_under h (first_in h p.index + i))
  key-at h n i l p u = ap (λ x. v.key x i) p.numbered ∙ s.key h p.index i l p.inside (let a = count_at h n l p in omega arith)

  row_at : (h n i : ℕ) → h < D → (p : At h n) → i < count n → record_under h (first_in h p.index + i) < r
  row_at h n i l p u = row_inside r h _ (held-inside r h p.index i (let a = count_at h n l p in omega arith))

  child-at : (h n i : ℕ) → suc h < D → (p : At (suc h) n) → i < count n → child n i ≡ start m r h + (first_in (suc h) p.index + i)
  child-at h n i l p u = ap (λ x. child x i) p.numbered ∙ s.child h p.index i l p.inside (let a = count_at (suc h) n l p in omega arith)

  child-inside : (h n i : ℕ) → suc h < D → (p : At (suc h) n) → i < count n → first_in (suc h) p.index + i < nodes_at r h
  child-inside h n i l p u = held-inside r (suc h) p.index i (let a = count_at (suc h) n l p in omega arith)

  -- a node of height h whose rows are from a on and below b
  record Within (h a b n : ℕ) : Type 0 where
    it : At h n
    low : (i : ℕ) → i < count n → a ≤ record_under h (first_in h it.index + i)
    high : (i : ℕ) → i < count n → record_under h (first_in h it.index + i) < b

  here : (n h k : ℕ) → h < D → k < nodes_at r h → n ∈ below v 0 (start m r h + k) → Within h (record_under (suc h) k) (record_under (suc h) (suc k)) n
  here n h k l u w =
      record {
        it = p;
        low = λ i a. rw (row_step h k) (row-le h (first_in h k) (first_in h k + i) (omega arith));
        high = λ i a. rw (row_step h (suc k), first-suc h k) (row-mono h (first_in h k + i) (first_in h k + fanout h) (let c = count_at h n l p in let b = held-most r h k in omega arith));
      }
    where
      p : At h n
      p = record { index = k; numbered = Memᴰ.eq_of_singleton w; inside = u }

  under : (n e h H k : ℕ) → e + h ≡ H → H < D → k < nodes_at r H → n ∈ below v e (start m r H + k) → Within h (record_under (suc H) k) (record_under (suc H) (suc k)) n
  under n zero h H k e l u w =
      let z : h ≡ H = omega arith in
      subst (λ t. t < D → k < nodes_at r t → n ∈ below v 0 (start m r t + k) → Within h (record_under (suc t) k) (record_under (suc t) (suc k)) n) z (here n h k) l u w
  under n (suc e) h zero k q l u w = absurd (omega arith)
  under n (suc e) h (suc H) k q l u w =
      let x = start m r (suc H) + k in
      let p : At (suc H) x = record { index = k; numbered = refl; inside = u } in
      let (i, a, b, c) = span-mem 0 (count x) (λ i. below v e (child x i)) w in
      let b' : i < count x = omega arith in
      let z = child-at H x i l p b' in
      let t = under n e h H (first_in (suc H) k + i) (omega arith) (omega arith) (child-inside H x i l p b') (rw z at c) in
      let f = held-most r (suc H) k in
      let g = count_at (suc H) x l p in
      let y = first-suc (suc H) k in
      let lo = row-le (suc H) (first_in (suc H) k) (first_in (suc H) k + i) (omega arith) in
      let hi = row-le (suc H) (suc (first_in (suc H) k + i)) (first_in (suc H) (suc k)) (omega arith) in
      record {
        it = t.it;
        low = λ j b. rw (row_step (suc H) k) (let o = t.low j b in omega arith);
        high = λ j b. rw (row_step (suc H) (suc k)) (let o = t.high j b in omega arith);
      }

  -- what lies e levels below child i of a node
  module _ (d n i e x j : ℕ) (o : OnLevel v d n) (u : i < count n) (l : d + suc e < depth) (w : x ∈ below v e (child n i)) (b : j < count x) where
    abbrev H : ℕ
    H = D - suc (suc d)

    deeper : suc H < D
    deeper = omega (arith, s.depth)

    pub p : At (suc H) n
    p = spot v K m r D deep s d (suc H) n (omega (arith, s.depth)) o

    q : ℕ
    q = first_in (suc H) p.index + i

    t : Within (H - e) (record_under (suc H) q) (record_under (suc H) (suc q)) x
    unfolding q
    t = under x e (H - e) H q (omega (arith, s.depth)) (omega (arith, s.depth)) (child-inside H n i deeper p u) (rw (child-at H n i deeper p u) at w)

    low-key : v.key n i ≤ v.key x j
    unfolding q
    low-key = rw (key-at (suc H) n i deeper p u, key-at (H - e) x j (omega (arith, deeper)) t.it b) (keys-le _ _ (t.low j b) (row_at (H - e) x j (omega (arith, deeper)) t.it b))

    high-key : suc i < count n → v.key x j < v.key n (suc i)
    unfolding q
    high-key h =
        let z : first_in (suc H) p.index + suc i ≡ suc (first_in (suc H) p.index + i) = omega arith in
        rw (key-at (suc H) n (suc i) deeper p h, key-at (H - e) x j (omega (arith, deeper)) t.it b, z)
        (rise _ _ (t.high j b) (rw z at (row_at (suc H) n (suc i) deeper p h)))

  -- the links of what is left of a level
  linked-from : (h k c : ℕ) → h < D → suc k + c ≡ nodes_at r h → Linked v (start m r h + k) (range (start m r h + suc k) c)
  linked-from h k zero l e = λ z. s.forward_end h k l (omega arith)
  linked-from h k (suc c) l e =
      let z : suc (start m r h + suc k) ≡ start m r h + suc (suc k) = omega arith in
      ((s.back h k l (omega arith), λ y. s.forward h k l (omega arith)), rw z (linked-from h (suc k) c l (omega arith)))

  level-linked : (h c : ℕ) → h < D → suc c ≡ nodes_at r h → Linked v 0 (range (start m r h) (suc c))
  level-linked h c l e =
      let z : start m r h + 0 ≡ start m r h = omega arith in
      let y : suc (start m r h) ≡ start m r h + 1 = omega arith in (
        (ap back (sym z) ∙ s.back_start h l, λ n. absurd (n refl)),
        rw y (subst (λ t. Linked v t (range (start m r h + 1) c)) z (linked-from h 0 c l (omega arith))),
      )

  pub tree-sound : SoundTree v
  tree-sound =
      record {
        nonzero = λ d n o. let p = at d n o in let a = start-low m r (height d) in omega (arith, p.numbered);
        in_range = λ d n o.
            let p = at d n o in
            let a = start-mono m r (height d) D (omega (arith, deep_of d n o)) in
            omega (arith, p.numbered, p.inside, s.room);
        off_chain = λ d n o w.
            let p = at d n o in
            let a = start-low m r (height d) in
            let (x, y) = range-in 1 m (rw s.chain at w) in omega (arith, p.numbered);
        once = λ d l. rw (level v K m r D deep s d (height d) (omega (arith, s.depth))) (range-once (start m r (height d)) (nodes_at r (height d)));
        one_level = λ d e n l o u.
            let p = at d n o in
            let q = at e n u in
            let a = start-mono m r (height e) (height d) (omega (arith, deep_of e n u)) in
            omega (arith, p.numbered, q.numbered, q.inside);
        ascend = λ d n i o l.
            let p = at d n o in
            let b : height d < D = omega (arith, deep_of d n o) in
            rw (key-at (height d) n i b p (omega arith), key-at (height d) n (suc i) b p l)
            (rise _ _ (row-mono (height d) _ _ (omega arith)) (row_at (height d) n (suc i) b p l));
        path_low = λ d n i e x j o u l w b. low-key d n i e x j o u l w b;
        path_high = λ d n i e x j o u l w b. high-key d n i e x j o (omega arith) l w b u;
        pointer_keys = λ d n i o u l b. pointer d n i o u (omega (arith, s.depth));
        linked = λ d l. link d (omega (arith, s.depth));
      }
    where
      height : ℕ → ℕ
      height d = D - suc d

      deep_of : (d n : ℕ) → OnLevel v d n → d < D
      deep_of d n o = omega (arith, o.deep, s.depth)

      at : (d n : ℕ) → OnLevel v d n → At (height d) n
      at d n o = spot v K m r D deep s d (height d) n (omega (arith, deep_of d n o)) o

      link : (d : ℕ) → d < D → Linked v 0 (below v d root)
      link d l =
          let a = nodes-some deep (height d) (omega arith) in
          let z : suc (nodes_at r (height d) - 1) ≡ nodes_at r (height d) = omega arith in
          rw (level v K m r D deep s d (height d) (omega arith))
          (subst (λ t. Linked v 0 (range (start m r (height d)) t)) z (level-linked (height d) (nodes_at r (height d) - 1) (omega arith) z))

      pointer : (d n i : ℕ) → OnLevel v d n → i < count n → suc d < D → v.key n i ≡ v.key (child n i) 0
      pointer d n i o u l =
          let g = D - suc (suc d) in
          let b : suc g < D = omega arith in
          let p = spot v K m r D deep s d (suc g) n (omega arith) o in
          let c : At g (child n i) = record { index = first_in (suc g) p.index + i; numbered = child-at g n i b p u; inside = child-inside g n i b p u } in
          let some : 0 < count (child n i) = omega (arith, count_at g (child n i) (omega arith) c, held-some r g c.index c.inside) in
          let z : first_in g c.index + 0 ≡ first_in g c.index = omega arith in
          key-at (suc g) n i b p u ∙ ap K (row_step g c.index) ∙ sym (ap (λ t. K (record_under g t)) z) ∙ sym (key-at g (child n i) 0 (omega arith) c some)

  pub leaf-range : leaves_at v depth ≡ range (start m r 0) (nodes_at r 0)
  leaf-range = ap (leaves_at v) s.depth ∙ leaves v K m r D deep s D refl

  -- where there are leaves there is a level
  leaf-deep : 0 < nodes_at r 0 → 0 < D
  leaf-deep l = go (ℕ_discrete D 0)
    where
      go : Dec (D ≡ 0) → 0 < D
      go (yes e) = let a = leaf-nodes r in absurd (omega (arith, deep.none e))
      go (no n) = omega arith

  -- what the leaves give, one after another, where each gives what g gives of its records
  pub leaf-entries : {A : Type 0} (f g : ℕ → List A) → ((k : ℕ) → k < nodes_at r 0 → 0 < D → f (start m r 0 + k) ≡ span (first_in 0 k) (held r 0 k) g)
      → gather f (range (start m r 0) (nodes_at r 0)) ≡ span 0 r g
  unfolding entries_at
  leaf-entries f g each = all-entries m r 0 f g (λ k u. each k u (leaf-deep (omega arith)))

  marks : ℕ → List ℕ
  marks n = span 0 (count n) (λ i. 0 ∷ [])

  pub tree-totals : LeafTotals v
  unfolding marks
  tree-totals = record { first = first (ℕ_discrete D 0); last = last (ℕ_discrete D 0); records = rw leaf-range records }
    where
      none : D ≡ 0 → leaves_at v depth ≡ []
      none e = ap (leaves_at v) (s.depth ∙ e)

      some : D ≢ 0 → suc (nodes_at r 0 - 1) ≡ nodes_at r 0
      some n = let a = nodes-some deep 0 (omega arith) in omega arith

      first : Dec (D ≡ 0) → v.first_leaf ≡ head0 (leaves_at v depth)
      first (yes e) = s.no_first e ∙ sym (ap head0 (none e))
      first (no n) = s.first_leaf (omega arith) ∙ sym (ap head0 (leaf-range ∙ ap (range (start m r 0)) (sym (some n))))

      last : Dec (D ≡ 0) → v.last_leaf ≡ last_or 0 (leaves_at v depth)
      last (yes e) = s.no_last e ∙ sym (ap (last_or 0) (none e))
      last (no n) =
          s.last_leaf (nodes_at r 0 - 1) (omega arith) (sym (some n))
          ∙ sym (ap (last_or 0) (leaf-range ∙ ap (range (start m r 0)) (sym (some n))) ∙ range_last 0 (start m r 0) (nodes_at r 0 - 1))

      records : v.leaf_records ≡ record_count v (range (start m r 0) (nodes_at r 0))
      records =
          s.leaf_records ∙ sym (marks-length 0 r)
          ∙ sym (ap length (leaf-entries marks (λ q. 0 ∷ []) (λ k u l. rw (s.count 0 k l u) (span-move (first_in 0 k) (held r 0 k) _ (λ q. 0 ∷ []) (λ i a. refl)))))
          ∙ counts-length v marks (λ n. marks-length 0 (count n)) (range (start m r 0) (nodes_at r 0))
