-- The header and the map nodes of the image laid down, and its map: the first bits are set, as many as nodes are used.
-- Assumes nothing.
use mathlib.Core.Path.{◌≡◌, refl, ap, ◌∙◌}
use mathlib.Core.List.{List, [], ◌∷◌, ◌++◌}
use Prim.Native.Nat.{ℕ, zero, suc, ◌+◌, ◌-◌, ◌*◌, ◌≤◌, ◌<◌}
use native.Mathlib.Omega.{arith}
use native.Mathlib.Decide.{dec_lt}
use lib.ListN.{length, take, drop, replicate, length-replicate}
use lib.Seq.{take_all}
use Rattle.image.specs.Bytes.{be16_at, be32_at}
use Rattle.btree.specs.Decide.{cond}
use Rattle.btree.specs.Lists.{span, gather, along}
use Rattle.btree.specs.Header.{depth_of, root_of, leaf_records_of, first_leaf_of, last_leaf_of, size_of, key_length_of, total_of, free_of, forward_of, map_nodes}
use Rattle.btree.specs.Image.{Descriptor, MapNode, map_record, map_bytes}
use Rattle.frame.specs.Form.{hfs, layout_of, node_map_of}
use Rattle.put.specs.Put.{be16}
use Rattle.shape.specs.Shape.{start}
use Rattle.shape.proofs.Shape.{start-low}
use Rattle.shape.proofs.Shaped.{range}
use Rattle.shape.proofs.Levels.{span-append}
use Rattle.laid.specs.Laid.{described, map_byte, map_part, map_node, root_for, first_for, last_for, header_start, header, image_nodes, joined}
use Rattle.laid.proofs.Bytes.{Same, same-16, same-32, same-part, same_then, same-skip, same-front, same-take, same-joined, gather-length}
use Rattle.laid.proofs.Nodes.{described-length, start-length, part_length, all-512, nodes-length, header_at, map_at}
use Rattle.laid.proofs.Fields.{d-forward, d-back, d-kind, d-level, d-count, d-reserved, read-16}

-- the header's numbers
module _ (m r D nodes : ℕ) (rest : List ℕ) where
  h-next : be32_at (header_start m r D nodes ++ rest) 0 ≡ cond (dec_lt 0 m) 1 0
  unfolding header_start described be32_at
  h-next = omega arith

  h-start : Descriptor (header_start m r D nodes ++ rest) 0 1 3
  unfolding header_start described be16_at be32_at
  h-start = record { back = refl; is_kind = refl; level = refl; count = refl; reserved = refl }

  h-depth : be16_at (header_start m r D nodes ++ rest) 14 ≡ D
  unfolding header_start described be16_at
  h-depth = omega arith

  h-root : be32_at (header_start m r D nodes ++ rest) 16 ≡ root_for m r D
  unfolding header_start described be32_at
  h-root = omega arith

  h-records : be32_at (header_start m r D nodes ++ rest) 20 ≡ r
  unfolding header_start described be32_at
  h-records = omega arith

  h-first : be32_at (header_start m r D nodes ++ rest) 24 ≡ first_for m r D
  unfolding header_start described be32_at
  h-first = omega arith

  h-last : be32_at (header_start m r D nodes ++ rest) 28 ≡ last_for m r D
  unfolding header_start described be32_at
  h-last = omega arith

  h-size : be16_at (header_start m r D nodes ++ rest) 32 ≡ 512
  unfolding header_start described be16_at
  h-size = refl

  h-key : be16_at (header_start m r D nodes ++ rest) 34 ≡ 7
  unfolding header_start described be16_at
  h-key = refl

  h-total : be32_at (header_start m r D nodes ++ rest) 36 ≡ nodes
  unfolding header_start described be32_at
  h-total = omega arith

  h-free : be32_at (header_start m r D nodes ++ rest) 40 ≡ nodes - start m r D
  unfolding header_start described be32_at
  h-free = omega arith

-- the offset words of a header and of a map node
h-words : (m r D nodes : ℕ) → Same (header m r D nodes) 504 (be16 504 ++ (be16 248 ++ (be16 120 ++ be16 14))) 0 8
unfolding header
h-words m r D nodes =
    same_then (same-skip (header_start m r D nodes) _ 44 460 8 (start-length m r D nodes))
    (same_then (same-skip (replicate 204 0) (map_part (start m r D) 0 256 ++ (be16 504 ++ (be16 248 ++ (be16 120 ++ be16 14)))) 204 256 8 (length-replicate {A = ℕ} 204 0))
    (same-skip (map_part (start m r D) 0 256) _ 256 0 8 (part_length (start m r D) 0 256)))

h-map : (m r D nodes : ℕ) → Same (header m r D nodes) 248 (map_part (start m r D) 0 256) 0 256
unfolding header
h-map m r D nodes =
    same_then (same-skip (header_start m r D nodes) _ 44 204 256 (start-length m r D nodes))
    (same_then (same-skip (replicate 204 0) (map_part (start m r D) 0 256 ++ (be16 504 ++ (be16 248 ++ (be16 120 ++ be16 14)))) 204 0 256 (length-replicate {A = ℕ} 204 0))
    (same-front (map_part (start m r D) 0 256) _ 0 256 (rw (part_length (start m r D) 0 256) (omega arith))))

m-words : (m u i : ℕ) → Same (map_node m u i) 508 (be16 508 ++ be16 14) 0 4
unfolding map_node
m-words m u i =
    same_then (same-skip (described _ _ _ _ _) _ 14 494 4 (described-length _ _ _ _ _))
    (same-skip (map_part u (256 + 494 * i) 494) _ 494 0 4 (part_length u (256 + 494 * i) 494))

m-map : (m u i : ℕ) → Same (map_node m u i) 14 (map_part u (256 + 494 * i) 494) 0 494
unfolding map_node
m-map m u i =
    same_then (same-skip (described _ _ _ _ _) _ 14 0 494 (described-length _ _ _ _ _))
    (same-front (map_part u (256 + 494 * i) 494) _ 0 494 (rw (part_length u (256 + 494 * i) 494) (omega arith)))

m-last : be16_at (be16 508 ++ be16 14) 2 ≡ 14
unfolding be16_at
m-last = refl

-- links that go from each node to the next, m of them, give a range
chain-from : (link : ℕ → ℕ) (m : ℕ) → ((j : ℕ) → j < m → link (suc j) ≡ cond (dec_lt (suc j) m) (suc (suc j)) 0)
    → (f i : ℕ) → m ≤ i + f → along link f (cond (dec_lt i m) (suc i) 0) ≡ range (suc i) (m - i)
chain-from link m e zero i b = let z : m - i ≡ 0 = omega arith in rw z
chain-from link m e (suc f) i b = go (dec_lt i m) (chain-from link m e f (suc i))
  where
    go : (d : Dec (i < m)) → (m ≤ suc i + f → along link f (cond (dec_lt (suc i) m) (suc (suc i)) 0) ≡ range (suc (suc i)) (m - suc i))
        → along link (suc f) (cond d (suc i) 0) ≡ range (suc i) (m - i)
    go (no n) k = let z : m - i ≡ 0 = omega arith in rw z
    go (yes l) k =
        let z : m - i ≡ suc (m - suc i) = omega arith in
        rw (e i l, z) (ap (λ x. suc i ∷ x) (k (omega arith)))

module _ (row : List ℕ) (m r : ℕ) (long : r * 20 ≤ length row) (D nodes : ℕ) (room : start m r D ≤ nodes) where
  abbrev img : List ℕ
  img = joined (image_nodes row m r D nodes)

  pub img-length : length img ≡ nodes * 512
  img-length = gather-length 512 (λ x. x) (image_nodes row m r D nodes) (all-512 row m r long D nodes room) ∙ ap (λ x. x * 512) (nodes-length row m r long D nodes room)

  some-nodes : 0 < nodes
  some-nodes = let a = start-low m r D in omega arith

  at-header : Same img 0 (header m r D nodes) 0 512
  at-header =
      rw (header_at row m r long D nodes room) at
      (same-joined (image_nodes row m r D nodes) (all-512 row m r long D nodes room) 0 (rw (nodes-length row m r long D nodes room) some-nodes))

  at_map : (i : ℕ) → i < m → Same img (suc i * 512) (map_node m (start m r D) i) 0 512
  at_map i l =
      rw (map_at row m r long D nodes room i l) at
      (same-joined (image_nodes row m r D nodes) (all-512 row m r long D nodes room) (suc i)
      (rw (nodes-length row m r long D nodes room) (let a = start-low m r D in omega arith)))

  pub img-depth : depth_of img ≡ D
  unfolding header
  img-depth = same-16 at-header 14 (omega arith) ∙ h-depth m r D nodes _

  pub img-root : root_of img ≡ root_for m r D
  unfolding header
  img-root = same-32 at-header 16 (omega arith) ∙ h-root m r D nodes _

  pub img-records : leaf_records_of img ≡ r
  unfolding header
  img-records = same-32 at-header 20 (omega arith) ∙ h-records m r D nodes _

  pub img-first : first_leaf_of img ≡ first_for m r D
  unfolding header
  img-first = same-32 at-header 24 (omega arith) ∙ h-first m r D nodes _

  pub img-last : last_leaf_of img ≡ last_for m r D
  unfolding header
  img-last = same-32 at-header 28 (omega arith) ∙ h-last m r D nodes _

  pub img-size : size_of img ≡ 512
  unfolding header
  img-size = same-16 at-header 32 (omega arith) ∙ h-size m r D nodes _

  pub img-key : key_length_of img ≡ 7
  unfolding header
  img-key = same-16 at-header 34 (omega arith) ∙ h-key m r D nodes _

  pub img-total : total_of img ≡ nodes
  unfolding header
  img-total = same-32 at-header 36 (omega arith) ∙ h-total m r D nodes _

  pub img-free : free_of img ≡ nodes - start m r D
  unfolding header
  img-free = same-32 at-header 40 (omega arith) ∙ h-free m r D nodes _

  pub img-start : Descriptor img 0 1 3
  unfolding header
  img-start =
      let d = h-start m r D nodes _ in
      record {
        back = same-32 at-header 4 (omega arith) ∙ d.back;
        is_kind = at-header.at 8 (omega arith) ∙ d.is_kind;
        level = at-header.at 9 (omega arith) ∙ d.level;
        count = same-16 at-header 10 (omega arith) ∙ d.count;
        reserved = same-16 at-header 12 (omega arith) ∙ d.reserved;
      }

  -- the header's last eight bytes
  pub img-words : Same img 504 (be16 504 ++ (be16 248 ++ (be16 120 ++ be16 14))) 0 8
  img-words = same_then (same-part at-header 504 8 (omega arith)) (h-words m r D nodes)

  pub img-next : forward_of (layout_of hfs) img 0 ≡ cond (dec_lt 0 m) 1 0
  unfolding header
  img-next = same-32 at-header 0 (omega arith) ∙ h-next m r D nodes _

  pub img-link : (i : ℕ) → i < m → forward_of (layout_of hfs) img (suc i) ≡ cond (dec_lt (suc i) m) (suc (suc i)) 0
  unfolding map_node
  img-link i l = let z : suc i * 512 ≡ suc i * 512 + 0 = omega arith in rw z (same-32 (at_map i l) 0 (omega arith) ∙ d-forward _ 0 2 0 1 _)

  pub img-chain : m ≤ nodes → map_nodes (layout_of hfs) img ≡ range 1 m
  img-chain l = rw (img-next, img-total) (chain-from (forward_of (layout_of hfs) img) m img-link nodes 0 (omega arith) ∙ ap (range 1) (let z : m - 0 ≡ m = omega arith in z))

  pub img-map : (i : ℕ) → i < m → MapNode (layout_of hfs) img (suc i)
  unfolding map_node node_map_of
  img-map i l =
      record {
        start =
            record {
              back = same-32 (at_map i l) 4 (omega arith) ∙ d-back _ 0 2 0 1 _;
              is_kind = (at_map i l).at 8 (omega arith) ∙ d-kind _ 0 2 0 1 _;
              level = (at_map i l).at 9 (omega arith) ∙ d-level _ 0 2 0 1 _;
              count = same-16 (at_map i l) 10 (omega arith) ∙ d-count _ 0 2 0 1 _;
              reserved = same-16 (at_map i l) 12 (omega arith) ∙ d-reserved _ 0 2 0 1 _;
            };
        free_at = same-16 (at_map i l) 508 (omega arith) ∙ same-16 (m-words m (start m r D) i) 0 (omega arith) ∙ read-16 508 (be16 14);
        record_at = same-16 (at_map i l) 510 (omega arith) ∙ same-16 (m-words m (start m r D) i) 2 (omega arith) ∙ m-last;
      }

  -- the map
  img-map-0 : take 256 (drop 248 img) ≡ map_part (start m r D) 0 256
  img-map-0 =
      let p = part_length (start m r D) 0 256 in
      same-take (same_then (same-part at-header 248 256 (omega arith)) (h-map m r D nodes)) (rw img-length (omega (arith, some-nodes))) (omega arith)
      ∙ take_all 256 (map_part (start m r D) 0 256) (omega arith)

  img-map-record : (i : ℕ) → i < m → map_record (layout_of hfs) img (suc i) ≡ map_part (start m r D) (256 + 494 * i) 494
  unfolding node_map_of
  img-map-record i l =
      let p = part_length (start m r D) (256 + 494 * i) 494 in
      let a = start-low m r D in
      same-take (same_then (same-part (at_map i l) 14 494 (omega arith)) (m-map m (start m r D) i)) (rw img-length (omega arith)) (omega arith)
      ∙ take_all 494 (map_part (start m r D) (256 + 494 * i) 494) (omega arith)

  img-maps : (i c : ℕ) → i + c ≡ m → gather (map_record (layout_of hfs) img) (range (suc i) c) ≡ map_part (start m r D) (256 + 494 * i) (494 * c)
  unfolding map_part
  img-maps i zero e = refl
  img-maps i (suc c) e =
      let z : 256 + 494 * suc i ≡ 256 + 494 * i + 494 = omega arith in
      let y : 494 + 494 * c ≡ 494 * suc c = omega arith in
      rw (img-map-record i (omega arith), img-maps (suc i) c (omega arith), z) (span-append (256 + 494 * i) 494 (494 * c) _ ∙ ap (λ n. span (256 + 494 * i) n (λ k. map_byte (start m r D) k ∷ [])) y)

  pub img-bytes : m ≤ nodes → map_bytes (layout_of hfs) img ≡ map_part (start m r D) 0 (256 + 494 * m)
  unfolding map_bytes map_part
  img-bytes l = rw (img-map-0, img-chain l, img-maps 0 m (omega arith)) (span-append 0 256 (494 * m) _)
