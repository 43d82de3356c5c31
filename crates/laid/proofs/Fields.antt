-- What is read in the image laid down: the fields of the header, of a map node and of a node of the tree.
-- Assumes nothing.
use mathlib.Core.Path.{◌≡◌, refl, ap, ◌∙◌}
use mathlib.Core.List.{List, [], ◌++◌}
use Prim.Native.Nat.{ℕ, zero, suc, ◌+◌, ◌-◌, ◌*◌, ◌≤◌, ◌<◌}
use native.Mathlib.Nat.{suc-mul, mul-le-mul_right}
use native.Mathlib.Omega.{arith}
use native.Mathlib.Decide.{ℕ_discrete, dec_lt}
use lib.ListN.{length, get_or, take, drop, replicate, length-replicate}
use Rattle.image.specs.Bytes.{be16_at, be32_at}
use Rattle.btree.specs.Decide.{cond}
use Rattle.btree.specs.Lists.{span}
use Rattle.btree.proofs.Decisions.{cond_yes, cond_no}
use Rattle.frame.specs.Form.{hfs, key_size}
use Rattle.frame.specs.Kinds.{kind_of}
use Rattle.extent_nodes.specs.Records.{data_size, record_size}
use Rattle.formats.specs.Format.{rank_at, record_offset}
use Rattle.put.specs.Put.{be16, be32}
use Rattle.shape.specs.Shape.{first_in, record_under, entries_at, nodes_at, held, start}
use Rattle.shape.proofs.Shape.{row_inside, held-most, held-inside, start-mono}
use Rattle.laid.specs.Laid.{described, offsets, size_at, kind_at, back_to, entry, node, image_nodes, joined}
use Rattle.laid.proofs.Bytes.{Same, same-16, same-32, same-part, same_then, same-skip, same-front, same-cut, same_span, same-joined}
use Rattle.laid.proofs.Keys.{same_key}
use Rattle.laid.proofs.Nodes.{described-length, fits, entry_length, entries-length, cut-length, all-512, nodes-length, node_at}

same-less : {xs ys : List ℕ} {a b n : ℕ} (k : ℕ) → k ≤ n → Same xs a ys b n → Same xs a ys b k
same-less k l s = record { at = λ o u. s.at o (omega arith) }

-- the first 14 bytes of a node
module _ (f b k l c : ℕ) (rest : List ℕ) where
  pub d-forward : be32_at (described f b k l c ++ rest) 0 ≡ f
  unfolding described be32_at
  d-forward = omega arith

  pub d-back : be32_at (described f b k l c ++ rest) 4 ≡ b
  unfolding described be32_at
  d-back = omega arith

  pub d-kind : get_or (described f b k l c ++ rest) 8 0 ≡ k
  unfolding described
  d-kind = refl

  pub d-level : get_or (described f b k l c ++ rest) 9 0 ≡ l
  unfolding described
  d-level = refl

  pub d-count : be16_at (described f b k l c ++ rest) 10 ≡ c
  unfolding described be16_at
  d-count = omega arith

  pub d-reserved : be16_at (described f b k l c ++ rest) 12 ≡ 0
  unfolding described be16_at
  d-reserved = refl

pub read-16 : (v : ℕ) (rest : List ℕ) → be16_at (be16 v ++ rest) 0 ≡ v
unfolding be16_at
read-16 v rest = omega arith

read-32 : (v : ℕ) → be32_at (be32 v) 0 ≡ v
unfolding be32_at
read-32 v = omega arith

offset_at : (s c i : ℕ) → i ≤ c → be16_at (offsets s c) (2 * (c - i)) ≡ 14 + i * s
unfolding offsets
offset_at s zero i l =
    let z : i ≡ 0 = omega arith in
    let y : 14 ≡ 14 + 0 * s = omega arith in
    rw z (read-16 14 [] ∙ y)
offset_at s (suc c) i l = go (ℕ_discrete i (suc c)) (offset_at s c i)
  where
    go : Dec (i ≡ suc c) → (i ≤ c → be16_at (offsets s c) (2 * (c - i)) ≡ 14 + i * s) → be16_at (be16 (14 + suc c * s) ++ offsets s c) (2 * (suc c - i)) ≡ 14 + i * s
    go (yes e) f = let z : 2 * (suc c - i) ≡ 0 = omega arith in rw (z, e) (read-16 (14 + suc c * s) (offsets s c))
    go (no n) f =
        let z : 2 * (suc c - i) ≡ 2 + 2 * (c - i) + 0 = omega arith in
        let y : 2 * (c - i) + 0 ≡ 2 * (c - i) = omega arith in
        rw z (same-16 (same-skip (be16 (14 + suc c * s)) (offsets s c) 2 (2 * (c - i)) 2 refl) 0 (omega arith) ∙ rw y (f (omega arith)))

pub size_of : (h : ℕ) → record_size hfs (kind_at h) ≡ size_at h
unfolding record_size key_size data_size kind_at size_at
size_of zero = ap (λ x. 8 + x) (cond_yes (ℕ_discrete 255 255) 12 4 refl)
size_of (suc h) = ap (λ x. 8 + x) (cond_no (ℕ_discrete 0 255) 12 4 (λ e. omega arith))

size-key : (h : ℕ) → 8 ≤ size_at h
unfolding size_at
size-key zero = omega arith
size-key (suc h) = omega arith

size-twelve : (h : ℕ) → 12 ≤ size_at (suc h)
unfolding size_at
size-twelve h = omega arith

module _ (row : List ℕ) (m r : ℕ) (long : r * 20 ≤ length row) where
  -- an entry starts with the key of its row
  entry_key : (h q : ℕ) → q < entries_at r h → Same (entry row m r h q) 0 row (record_under h q * 20) 8
  unfolding entry
  entry_key zero q l = same-less 8 (omega arith) (same-cut row 20 (record_under 0 q * 20))
  entry_key (suc h) q l =
      same_then (same-front (take 8 (drop (record_under (suc h) q * 20) row)) (be32 (start m r h + q)) 0 8 (rw (key-long (suc h) q l) (omega arith))) (same-cut row 8 (record_under (suc h) q * 20))
    where
      key-long : (h q : ℕ) → q < entries_at r h → length (take 8 (drop (record_under h q * 20) row)) ≡ 8
      key-long h q l = cut-length row m r long 8 (record_under h q) (row_inside r h q l) (omega arith)

  entry-child : (h q : ℕ) → q < entries_at r (suc h) → be32_at (entry row m r (suc h) q) 8 ≡ start m r h + q
  unfolding entry
  entry-child h q l =
      same-32 (same-skip (take 8 (drop (record_under (suc h) q * 20) row)) (be32 (start m r h + q)) 8 0 4
      (cut-length row m r long 8 (record_under (suc h) q) (row_inside r (suc h) q l) (omega arith))) 0 (omega arith)
      ∙ read-32 (start m r h + q)

  -- in a node of the tree
  module _ (h k : ℕ) where
    node-entry : (i : ℕ) → i < held r h k → Same (node row m r h k) (14 + i * size_at h) (entry row m r h (first_in h k + i)) 0 (size_at h)
    unfolding node
    node-entry i l =
        same_then (same-skip (described _ _ _ _ _) _ 14 (i * size_at h) (size_at h) (described-length _ _ _ _ _))
        (same_span (size_at h) (first_in h k) (held r h k) (entry row m r h) _ (λ j a b. entry_length row m r long h j (let c = held-inside r h k (j - first_in h k) (omega arith) in omega arith)) i l)

    node-offset : (i : ℕ) → i ≤ held r h k → be16_at (node row m r h k) (510 - 2 * i) ≡ 14 + i * size_at h
    unfolding node
    node-offset i l =
        let c = held r h k in
        let s = size_at h in
        let g = 498 - (c * s + 2 * suc c) in
        let a = fits h c (held-most r h k) in
        let z : 510 - 2 * i ≡ 14 + (c * s + (g + 2 * (c - i))) + 0 = omega arith in
        let y : 2 * (c - i) + 0 ≡ 2 * (c - i) = omega arith in
        rw z (same-16
        (same_then (same-skip (described _ _ _ _ _) _ 14 (c * s + (g + 2 * (c - i))) 2 (described-length _ _ _ _ _))
        (same_then (same-skip (span (first_in h k) c (entry row m r h)) _ (c * s) (g + 2 * (c - i)) 2 (entries-length row m r long h k))
        (same-skip (replicate g 0) (offsets s c) g (2 * (c - i)) 2 (length-replicate g 0))))
        0 (omega arith)
        ∙ rw y (offset_at s c i l))

  -- in the image
  module _ (D nodes : ℕ) (room : start m r D ≤ nodes) (h k : ℕ) (l : h < D) (u : k < nodes_at r h) where
    abbrev img : List ℕ
    img = joined (image_nodes row m r D nodes)

    abbrev n : ℕ
    n = start m r h + k

    here : Same img (n * 512) (node row m r h k) 0 512
    here =
        let a = start-mono m r h D l in
        rw (node_at row m r long D nodes room h k l u) at
        (same-joined (image_nodes row m r D nodes) (all-512 row m r long D nodes room) n (rw (nodes-length row m r long D nodes room) (omega arith)))

    pub i-forward : be32_at img (n * 512) ≡ cond (dec_lt (suc k) (nodes_at r h)) (start m r h + suc k) 0
    unfolding node
    i-forward = let z : n * 512 ≡ n * 512 + 0 = omega arith in rw z (same-32 here 0 (omega arith) ∙ d-forward _ _ _ _ _ _)

    pub i-back : be32_at img (n * 512 + 4) ≡ back_to (start m r h) k
    unfolding node
    i-back = same-32 here 4 (omega arith) ∙ d-back _ _ _ _ _ _

    pub i-kind : get_or img (n * 512 + 8) 0 ≡ kind_at h
    unfolding node
    i-kind = here.at 8 (omega arith) ∙ d-kind _ _ _ _ _ _

    pub i-level : get_or img (n * 512 + 9) 0 ≡ suc h
    unfolding node
    i-level = here.at 9 (omega arith) ∙ d-level _ _ _ _ _ _

    pub i-count : be16_at img (n * 512 + 10) ≡ held r h k
    unfolding node
    i-count = same-16 here 10 (omega arith) ∙ d-count _ _ _ _ _ _

    pub i-reserved : be16_at img (n * 512 + 12) ≡ 0
    unfolding node
    i-reserved = same-16 here 12 (omega arith) ∙ d-reserved _ _ _ _ _ _

    pub i-offset : (i : ℕ) → i ≤ held r h k → be16_at img (n * 512 + (510 - 2 * i)) ≡ 14 + i * size_at h
    i-offset i b =
        let z : 0 + (510 - 2 * i) ≡ 510 - 2 * i = omega arith in
        same-16 here (510 - 2 * i) (omega arith) ∙ rw z (node-offset h k i b)

    -- record i of it
    module _ (i : ℕ) (b : i < held r h k) where
      pub i-record : record_offset hfs img n i ≡ 14 + i * size_at h
      unfolding record_offset kind_of
      i-record = ap (λ x. 14 + i * record_size hfs x) i-kind ∙ ap (λ x. 14 + i * x) (size_of h)

      pub i-entry : Same img (n * 512 + (14 + i * size_at h)) (entry row m r h (first_in h k + i)) 0 (size_at h)
      i-entry =
          let a = fits h (held r h k) (held-most r h k) in
          let c : suc i * size_at h ≤ held r h k * size_at h = mul-le-mul_right (size_at h) b in
          let e = suc-mul i (size_at h) in
          let z : 0 + (14 + i * size_at h) ≡ 14 + i * size_at h = omega arith in
          same_then (same-part here (14 + i * size_at h) (size_at h) (omega arith)) (rw z (node-entry h k i b))

      -- its key is that of its row
      pub i-row : Same img (n * 512 + (14 + i * size_at h)) row (record_under h (first_in h k + i) * 20) 8
      i-row = same_then (same-less 8 (size-key h) i-entry) (entry_key h (first_in h k + i) (held-inside r h k i b))

      pub i-key : rank_at hfs img (n * 512 + record_offset hfs img n i) ≡ rank_at hfs row (record_under h (first_in h k + i) * 20)
      i-key = rw i-record (same_key i-row (omega arith))

  module _ (D nodes : ℕ) (room : start m r D ≤ nodes) (h k : ℕ) (l : suc h < D) (u : k < nodes_at r (suc h)) (i : ℕ) (b : i < held r (suc h) k) where
    pub i-child : be32_at (img D nodes room (suc h) k l u) (n D nodes room (suc h) k l u * 512 + (record_offset hfs (img D nodes room (suc h) k l u) (n D nodes room (suc h) k l u) i + key_size hfs)) ≡ start m r h + (first_in (suc h) k + i)
    unfolding key_size
    i-child =
        let z : n D nodes room (suc h) k l u * 512 + (14 + i * size_at (suc h) + 8) ≡ n D nodes room (suc h) k l u * 512 + (14 + i * size_at (suc h)) + 8 = omega arith in
        rw (i-record D nodes room (suc h) k l u i b, z)
        (same-32 (i-entry D nodes room (suc h) k l u i b) 8 (size-twelve h) ∙ entry-child h (first_in (suc h) k + i) (held-inside r (suc h) k i b))
