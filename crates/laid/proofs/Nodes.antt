-- The nodes laid down: each has 512 bytes, and each stands at its number.
-- Assumes nothing.
use mathlib.Core.Path.{◌≡◌, refl, ap, ◌∙◌}
use mathlib.Core.Logic.{⊎_elim}
use mathlib.Core.List.Memᴰ
use mathlib.Core.List.{List, [], ◌∷◌, ◌++◌}
use Prim.Native.Nat.{ℕ, zero, suc, ◌+◌, ◌-◌, ◌*◌, ◌≤◌, ◌<◌}
use native.Mathlib.Omega.{arith}
use native.Mathlib.Decide.{ℕ_discrete, dec_lt}
use lib.ListN.{length, get_or, take, drop, replicate, length-append, length-drop, length-replicate, get_or-append}
use lib.Seq.{length-take-le}
use Rattle.btree.specs.Decide.{cond}
use Rattle.btree.specs.Lists.{◌∈◌, span}
use Rattle.btree.proofs.Lists.{ones-length, span-mem}
use Rattle.put.specs.Put.{be16}
use Rattle.shape.specs.Shape.{fanout, first_in, record_under, entries_at, nodes_at, held, start}
use Rattle.shape.proofs.Shape.{row_inside, held-most, held-inside, start-mono, start-low}
use Rattle.laid.specs.Laid.{described, map_part, map_node, offsets, size_at, kind_at, back_to, header_start, header, entry, node, level_nodes, image_nodes}
use Rattle.laid.proofs.Bytes.{skip, ones-at, span-length}

pub described-length : (f b k l c : ℕ) → length (described f b k l c) ≡ 14
unfolding described
described-length f b k l c = refl

pub start-length : (m r D nodes : ℕ) → length (header_start m r D nodes) ≡ 44
unfolding header_start described
start-length m r D nodes = refl

pub part_length : (u a n : ℕ) → length (map_part u a n) ≡ n
unfolding map_part
part_length u a n = ones-length a n _

pub header-length : (m r D nodes : ℕ) → length (header m r D nodes) ≡ 512
unfolding header
header-length m r D nodes =
    rw (
      length-append (header_start m r D nodes) (replicate 204 0 ++ (map_part (start m r D) 0 256 ++ (be16 504 ++ (be16 248 ++ (be16 120 ++ be16 14))))),
      start-length m r D nodes,
      length-append (map_part (start m r D) 0 256) (be16 504 ++ (be16 248 ++ (be16 120 ++ be16 14))),
      part_length (start m r D) 0 256,
    )

pub map-length : (m u i : ℕ) → length (map_node m u i) ≡ 512
unfolding map_node
map-length m u i =
    length-append (described _ 0 2 0 1) (map_part u (256 + 494 * i) 494 ++ (be16 508 ++ be16 14))
    ∙ rw (described-length (cond (dec_lt (suc i) m) (suc (suc i)) 0) 0 2 0 1, length-append (map_part u (256 + 494 * i) 494) (be16 508 ++ be16 14), part_length u (256 + 494 * i) 494)

pub offsets-length : (s c : ℕ) → length (offsets s c) ≡ 2 * suc c
unfolding offsets
offsets-length s zero = refl
offsets-length s (suc c) = let a = offsets-length s c in omega arith

-- the records and their offset words fit
pub fits : (h c : ℕ) → c ≤ fanout h → c * size_at h + 2 * suc c ≤ 498
unfolding fanout size_at
fits zero c l = omega arith
fits (suc h) c l = omega arith

module _ (row : List ℕ) (m r : ℕ) (long : r * 20 ≤ length row) where
  pub cut-length : (n q : ℕ) → q < r → n ≤ 20 → length (take n (drop (q * 20) row)) ≡ n
  cut-length n q l u = length-take-le n (drop (q * 20) row) (rw (length-drop (q * 20) row) (omega arith))

  pub entry_length : (h q : ℕ) → q < entries_at r h → length (entry row m r h q) ≡ size_at h
  unfolding entry size_at
  entry_length zero q l = cut-length 20 (record_under 0 q) (row_inside r 0 q l) (omega arith)
  entry_length (suc h) q l =
      length-append (take 8 (drop (record_under (suc h) q * 20) row)) _
      ∙ rw (cut-length 8 (record_under (suc h) q) (row_inside r (suc h) q l) (omega arith))

  pub entries-length : (h k : ℕ) → length (span (first_in h k) (held r h k) (entry row m r h)) ≡ held r h k * size_at h
  entries-length h k =
      span-length (size_at h) (first_in h k) (held r h k) (entry row m r h) (λ j l u.
      entry_length h j (let a = held-inside r h k (j - first_in h k) (omega arith) in omega arith))

  pub node-length : (h k : ℕ) → length (node row m r h k) ≡ 512
  unfolding node
  node-length h k =
      let a = fits h (held r h k) (held-most r h k) in
      length-append (described _ _ _ _ _) _
      ∙ rw (
        described-length (cond (dec_lt (suc k) (nodes_at r h)) (start m r h + suc k) 0) (back_to (start m r h) k) (kind_at h) (suc h) (held r h k),
        length-append (span (first_in h k) (held r h k) (entry row m r h)) (replicate (498 - (held r h k * size_at h + 2 * suc (held r h k))) 0 ++ offsets (size_at h) (held r h k)),
        entries-length h k,
        length-append (replicate (498 - (held r h k * size_at h + 2 * suc (held r h k))) 0) (offsets (size_at h) (held r h k)),
        length-replicate {A = ℕ} (498 - (held r h k * size_at h + 2 * suc (held r h k))) 0,
        offsets-length (size_at h) (held r h k),
      ) (omega arith)

  module _ (D nodes : ℕ) (room : start m r D ≤ nodes) where
    zero-node : (n : ℕ) (x : List ℕ) → x ∈ replicate n (replicate 512 0) → length x ≡ 512
    zero-node zero x w = absurd (Memᴰ.not-nil w)
    zero-node (suc n) x w = ⊎_elim (λ e. ap length e ∙ length-replicate {A = ℕ} 512 0) (zero-node n x) (Memᴰ.cases_cons w)

    pub all-512 : (x : List ℕ) → x ∈ image_nodes row m r D nodes → length x ≡ 512
    unfolding image_nodes
    all-512 x w =
        ⊎_elim (λ e. ap length e ∙ header-length m r D nodes)
        (λ a. ⊎_elim
        (λ b. let (i, l, u, c) = span-mem 0 m _ b in ap length (Memᴰ.eq_of_singleton c) ∙ map-length m (start m r D) i)
        (λ b. ⊎_elim
        (λ c.
        let (h, l, u, e) = span-mem 0 D (level_nodes row m r) c in
        let (k, l', u', e') = span-mem 0 (nodes_at r h) _ e in ap length (Memᴰ.eq_of_singleton e') ∙ node-length h k)
        (zero-node (nodes - start m r D) x)
        (Memᴰ.append_cases (span 0 D (level_nodes row m r)) b))
        (Memᴰ.append_cases (span 0 m (λ i. map_node m (start m r D) i ∷ [])) a))
        (Memᴰ.cases_cons w)

    -- from height i on
    levels-length : (i n : ℕ) → start m r i + length (span i n (level_nodes row m r)) ≡ start m r (i + n)
    unfolding start
    levels-length i zero = let z : i + 0 ≡ i = omega arith in rw z (omega arith)
    levels-length i (suc n) =
        let z : i + suc n ≡ suc i + n = omega arith in
        let a = levels-length (suc i) n in
        let b = ones-length 0 (nodes_at r i) (node row m r i) in
        rw (length-append (level_nodes row m r i) (span (suc i) n (level_nodes row m r)), z) (omega arith)

    pub nodes-length : length (image_nodes row m r D nodes) ≡ nodes
    unfolding image_nodes start
    nodes-length =
        let a = levels-length 0 D in
        let z : 0 + D ≡ D = omega arith in
        let a' = rw z at a in
        rw (
          length-append (span 0 m (λ i. map_node m (start m r D) i ∷ [])) (span 0 D (level_nodes row m r) ++ replicate (nodes - start m r D) (replicate 512 0)),
          length-append (span 0 D (level_nodes row m r)) (replicate (nodes - start m r D) (replicate 512 0)),
          length-replicate (nodes - start m r D) (replicate {A = ℕ} 512 0),
          ones-length 0 m (map_node m (start m r D)),
        ) (omega arith)

    -- each node of the tree at its number
    level-at : (i n h k : ℕ) → i ≤ h → h < i + n → k < nodes_at r h → (x : ℕ) → start m r i + x ≡ start m r h + k → get_or (span i n (level_nodes row m r)) x [] ≡ node row m r h k
    unfolding start
    level-at i zero h k l u b x e = absurd (omega arith)
    level-at i (suc n) h k l u b x e = go (ℕ_discrete i h) (level-at (suc i) n h k)
      where
        go : Dec (i ≡ h)
            → (suc i ≤ h → h < suc i + n → k < nodes_at r h → (x : ℕ) → start m r (suc i) + x ≡ start m r h + k → get_or (span (suc i) n (level_nodes row m r)) x [] ≡ node row m r h k)
            → get_or (level_nodes row m r i ++ span (suc i) n (level_nodes row m r)) x [] ≡ node row m r h k
        go (yes q) f =
            let a : x ≡ k = omega (arith, ap (start m r) q) in
            let c : x < nodes_at r i = omega (arith, ap (nodes_at r) q) in
            let z : 0 + x ≡ k = omega arith in
            get_or-append (level_nodes row m r i) (span (suc i) n (level_nodes row m r)) [] x (rw (ones-length 0 (nodes_at r i) (node row m r i)) c)
            ∙ ones-at [] (node row m r i) 0 (nodes_at r i) x c ∙ ap (node row m r i) z ∙ ap (λ t. node row m r t k) q
        go (no q) f =
            let a = start-mono m r i h (omega arith) in
            let z : x ≡ nodes_at r i + (x - nodes_at r i) = omega arith in
            ap (λ t. get_or (level_nodes row m r i ++ span (suc i) n (level_nodes row m r)) t []) z
            ∙ skip [] (level_nodes row m r i) (span (suc i) n (level_nodes row m r)) (nodes_at r i) (x - nodes_at r i) (ones-length 0 (nodes_at r i) (node row m r i))
            ∙ f (omega arith) (omega arith) b (x - nodes_at r i) (omega arith)

    -- the lists after the header
    abbrev maps : List (List ℕ)
    maps = span 0 m (λ i. map_node m (start m r D) i ∷ [])

    abbrev tree : List (List ℕ)
    tree = span 0 D (level_nodes row m r)

    pub header_at : get_or (image_nodes row m r D nodes) 0 [] ≡ header m r D nodes
    unfolding image_nodes
    header_at = refl

    pub map_at : (i : ℕ) → i < m → get_or (image_nodes row m r D nodes) (suc i) [] ≡ map_node m (start m r D) i
    unfolding image_nodes
    map_at i l =
        let z : 0 + i ≡ i = omega arith in
        get_or-append maps (tree ++ replicate (nodes - start m r D) (replicate 512 0)) [] i (rw (ones-length 0 m (map_node m (start m r D))) l)
        ∙ ones-at [] (map_node m (start m r D)) 0 m i l ∙ ap (map_node m (start m r D)) z

    pub node_at : (h k : ℕ) → h < D → k < nodes_at r h → get_or (image_nodes row m r D nodes) (start m r h + k) [] ≡ node row m r h k
    unfolding image_nodes start
    node_at h k l u =
        let a = start-low m r h in
        let b = start-mono m r h D l in
        let y : ℕ = start m r h + k - suc m in
        let z : start m r h + k ≡ suc (m + y) = omega arith in
        let c = levels-length 0 D in
        let e : 0 + D ≡ D = omega arith in
        let c' = rw e at c in
        ap (λ t. get_or (image_nodes row m r D nodes) t []) z
        ∙ skip [] maps (tree ++ replicate (nodes - start m r D) (replicate 512 0)) m y (ones-length 0 m (map_node m (start m r D)))
        ∙ get_or-append tree (replicate (nodes - start m r D) (replicate 512 0)) [] y (omega arith)
        ∙ level-at 0 D h k (omega arith) (omega arith) u y (omega arith)
