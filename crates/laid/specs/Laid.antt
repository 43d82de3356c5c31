-- W-209: the image laid down from a row of leaf records: "Header first, then the fewest map nodes the target's size needs, then leaves of 22 records, the last
-- with the rest, then index levels of 35 likewise, root last; all other bytes zero."
-- Assumes nothing.
use Rattle.std.specs.Prelude.{List, [], ◌∷◌, ◌++◌, ℕ, zero, suc, ◌+◌, ◌-◌, ◌*◌, ◌/◌, ◌^◌, min, take, drop, replicate}
use Rattle.std.proofs.Math.Decide.{dec_lt}
use Rattle.put.specs.Put.{be16, be32}
use Rattle.btree.specs.Decide.{cond}
use Rattle.btree.specs.Lists.{span, gather}
use Rattle.shape.specs.Shape.{records_in, first_in, record_under, nodes_at, held, start, levels}

-- "forward link (4), back link (4), kind (1), level (1), record count (2), reserved (2, zero)"
unfoldable pub described : (forward back kind level count : ℕ) → List ℕ
described f b k l c = be32 f ++ (be32 b ++ (k ∷ l ∷ (be16 c ++ (0 ∷ 0 ∷ []))))

-- byte k of a map whose first `used` bits are set, "the top bit of the first byte" first
unfoldable pub map_byte : ℕ → ℕ → ℕ
map_byte used k = 256 - 2 ^ (8 - min 8 (used - 8 * k))

-- n bytes of it, from byte `from` on
unfoldable pub map_part : (used from n : ℕ) → List ℕ
map_part used from n = span from n (λ k. map_byte used k ∷ [])

-- "the fewest map nodes the target's size needs": 2,048 bits are in the header, 3,952 in a map node
unfoldable pub maps_for : ℕ → ℕ
maps_for nodes = (nodes - 2048 + 3951) / 3952

-- map node i of m, which is node i + 1: "back link 0, kind 02, level 0, one record, and ends in 01FC 000E"
unfoldable pub map_node : (m used i : ℕ) → List ℕ
map_node m used i = described (cond (dec_lt (suc i) m) (suc (suc i)) 0) 0 2 0 1 ++ (map_part used (256 + 494 * i) 494 ++ (be16 508 ++ be16 14))

-- "Record offsets are words from the end of the node backwards; the last word is 000E. There is one offset more than records, and it points to the free space.":
-- those of c records of a size
unfoldable pub offsets : (size c : ℕ) → List ℕ
offsets size zero = be16 14
offsets size (suc c) = be16 (14 + suc c * size) ++ offsets size c

-- bytes of a record, and the kind of a node, at a height
unfoldable pub size_at : ℕ → ℕ
size_at zero = 20
size_at (suc h) = 12

unfoldable pub kind_at : ℕ → ℕ
kind_at zero = 255
kind_at (suc h) = 0

-- the link back from node k of a level that starts with node s
unfoldable pub back_to : ℕ → ℕ → ℕ
back_to s zero = 0
back_to s (suc k) = s + k

-- the header's root, first leaf and last leaf, of D levels; "At depth 0, root, .. first and last leaf are 0."
unfoldable pub root_for : (m r D : ℕ) → ℕ
root_for m r zero = 0
root_for m r (suc h) = start m r h

unfoldable pub first_for : (m r D : ℕ) → ℕ
first_for m r zero = 0
first_for m r (suc h) = start m r 0

unfoldable pub last_for : (m r D : ℕ) → ℕ
last_for m r zero = 0
last_for m r (suc h) = start m r 0 + (nodes_at r 0 - 1)

-- the first 44 bytes of the header, of an image of so many nodes: "depth (2), root (4), leaf records (4), first leaf (4), last leaf (4), node size (2), key
-- length (2), total nodes (4), free nodes (4)"
unfoldable pub header_start : (m r D nodes : ℕ) → List ℕ
header_start m r D nodes =
    described (cond (dec_lt 0 m) 1 0) 0 1 0 3
    ++ (be16 D ++ (be32 (root_for m r D) ++ (be32 r ++ (be32 (first_for m r D) ++ (be32 (last_for m r D) ++ (be16 512 ++ (be16 7 ++ (be32 nodes ++ be32 (nodes - start m r D)))))))))

-- and all after them, zero but the map and "the last eight bytes 01F8 00F8 0078 000E"
unfoldable pub header : (m r D nodes : ℕ) → List ℕ
header m r D nodes =
    header_start m r D nodes ++ (replicate 204 0 ++ (map_part (start m r D) 0 256 ++ (be16 504 ++ (be16 248 ++ (be16 120 ++ be16 14)))))

-- of a row of r records, after m map nodes
module _ (row : List ℕ) (m r : ℕ) where
  -- entry q of a height: a record of the row, or the key of the first record below and the number of the child
  unfoldable pub entry : (h q : ℕ) → List ℕ
  entry zero q = take 20 (drop (record_under 0 q * 20) row)
  entry (suc h) q = take 8 (drop (record_under (suc h) q * 20) row) ++ be32 (start m r h + q)

  -- node k of a height
  unfoldable pub node : (h k : ℕ) → List ℕ
  node h k =
      described (cond (dec_lt (suc k) (nodes_at r h)) (start m r h + suc k) 0) (back_to (start m r h) k) (kind_at h) (suc h) (held r h k)
      ++ (span (first_in h k) (held r h k) (entry h)
      ++ (replicate (498 - (held r h k * size_at h + 2 * suc (held r h k))) 0 ++ offsets (size_at h) (held r h k)))

  abbrev pub level_nodes : ℕ → List (List ℕ)
  level_nodes h = span 0 (nodes_at r h) (λ k. node h k ∷ [])

  -- the nodes of an image with D levels: header, map nodes, the levels from the leaves up, and "all other bytes zero"
  unfoldable pub image_nodes : (D nodes : ℕ) → List (List ℕ)
  image_nodes D nodes =
      header m r D nodes ∷
      (span 0 m (λ i. map_node m (start m r D) i ∷ []) ++ (span 0 D level_nodes ++ replicate (nodes - start m r D) (replicate 512 0)))

abbrev pub joined : List (List ℕ) → List ℕ
joined ns = gather (λ x. x) ns

-- the image of so many nodes that is laid down from a row
unfoldable pub laid : (row : List ℕ) (nodes : ℕ) → List ℕ
laid row nodes = joined (image_nodes row (maps_for nodes) (records_in row) (levels (records_in row)) nodes)

-- how many nodes it wants: header, map nodes and tree
unfoldable pub wanted : (row : List ℕ) (nodes : ℕ) → ℕ
wanted row nodes = start (maps_for nodes) (records_in row) (levels (records_in row))
