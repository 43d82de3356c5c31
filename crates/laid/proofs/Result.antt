-- The theorems of the tree laid down, for a row and a number of nodes.
-- Assumes nothing.
use mathlib.Core.Path.{◌≡◌, refl, sym, ap, ◌∙◌}
use mathlib.Core.List.Memᴰ
use mathlib.Core.List.{List}
use Prim.Native.Nat.{ℕ, zero, suc, ◌+◌, ◌-◌, ◌*◌, ◌≤◌, ◌<◌}
use native.Mathlib.Omega.{arith}
use native.Mathlib.Decide.{ℕ_discrete}
use lib.ListN.{length, length-append}
use Rattle.btree.specs.Lists.{◌∈◌}
use Rattle.btree.specs.Tree.{OnLevel, leaves_at, tree_nodes, record_count}
use Rattle.btree.specs.Header.{depth_of, total_of, count_of, map_nodes, view_of}
use Rattle.btree.specs.Image.{Sound}
use Rattle.btree.specs.Search.{record_of, records_of, leaf_list}
use Rattle.btree.proofs.Lists.{ones-length, gather-mem, part_length}
use Rattle.btree.proofs.Leaves.{record-mem, leaf_list-leaves}
use Rattle.frame.specs.Form.{hfs, key_size, node_map_of, layout_of}
use Rattle.frame.specs.Kinds.{kind_on, level_of}
use Rattle.frame.proofs.Forms.{whole-node}
use Rattle.extent_nodes.specs.Records.{data_size, record_size}
use Rattle.formats.specs.Format.{rank_at, record_at, format_of, view}
use Rattle.formats.proofs.Starts.{record-inside}
use Rattle.shape.specs.Shape.{records_in, fanout, start, levels}
use Rattle.shape.proofs.Shape.{leaf-nodes, start-low, start-size, levels-most, levels-deep, records-few}
use Rattle.shape.proofs.Shaped.{tree_size, Deep, range}
use Rattle.shape.proofs.Levels.{counts-length}
use Rattle.shape.proofs.Fewest.{leaves-least, tree-least}
use Rattle.shape.proofs.Reach.{tree-length}
use Rattle.leaf_rows.specs.Row.{RowLaw, bytes_of, leaf_row}
use Rattle.laid.specs.Laid.{size_at, kind_at, maps_for, laid, wanted}
use Rattle.laid.proofs.Bytes.{gather-length}
use Rattle.laid.proofs.Fields.{size_of}
use Rattle.laid.proofs.Header.{img-length, img-chain}
use Rattle.laid.proofs.Image.{Given, kind-on, shaped, sound}
use Rattle.laid.proofs.Rows.{row-again}

-- "the fewest map nodes the target's size needs": so many are enough, and no fewer
pub maps-enough : (nodes : ℕ) → nodes ≤ 8 * (256 + 494 * maps_for nodes)
unfolding maps_for
maps-enough nodes = omega arith

pub maps-fewest : (nodes k : ℕ) → nodes ≤ 8 * (256 + 494 * k) → maps_for nodes ≤ k
unfolding maps_for
maps-fewest nodes k l = omega arith

keys-rise : (row : List ℕ) → RowLaw row → (p q : ℕ) → p < q → q < records_in row → rank_at hfs row (p * 20) < rank_at hfs row (q * 20)
keys-rise row law p zero l u = absurd (omega arith)
keys-rise row law p (suc q) l u = go (ℕ_discrete p q) (λ k. keys-rise row law p q k (omega arith))
  where
    go : Dec (p ≡ q) → (p < q → rank_at hfs row (p * 20) < rank_at hfs row (q * 20)) → rank_at hfs row (p * 20) < rank_at hfs row (suc q * 20)
    go (yes e) f = rw e (law.keys.ascend q (omega arith))
    go (no ne) f = let a = f (omega arith) in let b = law.keys.ascend q (omega arith) in omega arith

-- of any sound image
module _ (image : List ℕ) (s : Sound (layout_of hfs) image (format_of hfs)) where
  fanout-most : (h c : ℕ) → 14 + c * size_at h + 2 * (c + 1) ≤ 512 → c ≤ fanout h
  unfolding fanout size_at
  fanout-most zero c l = omega arith
  fanout-most (suc h) c l = omega arith

  counts-most : (d n : ℕ) → OnLevel (view hfs image) d n → (view hfs image).count n ≤ fanout ((view hfs image).depth - suc d)
  unfolding view_of
  counts-most d n o =
      let l : d < depth_of image = o.deep in
      let w = s.nodes d n o in
      let z : level_of hfs image n ≡ suc (depth_of image - suc d) = omega (arith, w.level) in
      let e = ap (λ x. record_size hfs (kind_on x)) z ∙ ap (record_size hfs) (kind-on (depth_of image - suc d)) ∙ size_of (depth_of image - suc d) in
      fanout-most (depth_of image - suc d) (count_of (layout_of hfs) image n) (rw e at (w.records.extents refl).few)

  -- as many leaf records as the leaves count
  list_length : length (leaf_list (view hfs image)) ≡ record_count (view hfs image) (leaves_at (view hfs image) (view hfs image).depth)
  list_length =
      let v = view hfs image in
      ap length (leaf_list-leaves v s.tree s.totals) ∙ counts-length v (records_of v) (λ n. ones-length 0 (v.count n) _) (leaves_at v v.depth)

  -- no sound image has fewer nodes of the tree than its records take
  pub sound-fewest : (D : ℕ) → Deep (length (leaf_list (view hfs image))) D → tree_size (length (leaf_list (view hfs image))) D ≤ length (tree_nodes (view hfs image))
  sound-fewest D deep = tree-least (view hfs image) counts-most (length (leaf_list (view hfs image))) D (sym list_length) deep

  -- the leaf records lie in the image, 20 bytes each
  record-bytes : (h : ℕ) → (view hfs image).depth ≡ h → (n i : ℕ) → n ∈ leaves_at (view hfs image) h → i < (view hfs image).count n
      → length (bytes_of image (record_of (view hfs image) n i)) ≡ 20
  unfolding view_of key_size data_size kind_at
  record-bytes zero e n i m u = absurd (Memᴰ.not-nil m)
  record-bytes (suc h) e n i m u =
      let l : h < depth_of image = omega arith in
      let o : OnLevel (view hfs image) h n = record { deep = l; among = m } in
      let w = s.nodes h n o in
      let z : level_of hfs image n ≡ 1 = omega (arith, w.level) in
      let r = rw (z, kind-on 0) at w.records in
      let t = whole-node hfs (length image) n (let a = s.tree.in_range h n o in let b = s.header.total_nodes in omega arith) in
      part_length image (record_at hfs image n i) 20 (let a = record-inside hfs image n i r t u in omega arith)

  pub row-length : length (leaf_row image) ≡ length (leaf_list (view hfs image)) * 20
  row-length =
      let v = view hfs image in
      gather-length 20 (bytes_of image) (leaf_list v) (λ x m.
      let (n, a, b) = gather-mem (records_of v) (leaves_at v v.depth) (rw (leaf_list-leaves v s.tree s.totals) at m) in
      let (i, u, e) = record-mem v n x b in
      ap (λ y. length (bytes_of image y)) e ∙ record-bytes v.depth refl n i a u)

  module _ (nodes : ℕ) (long : length image ≡ nodes * 512) where
    total : total_of image ≡ nodes
    total = s.header.total_nodes ∙ rw long (omega arith)

    -- nor fewer map nodes than its size needs
    pub sound-maps : maps_for nodes ≤ length (map_nodes (layout_of hfs) image)
    unfolding node_map_of
    sound-maps = maps-fewest nodes (length (map_nodes (layout_of hfs) image)) (omega (arith, total, s.chain.enough))

    -- header, map nodes and tree are all among its nodes
    all-nodes : 1 + length (map_nodes (layout_of hfs) image) + length (tree_nodes (view hfs image)) ≤ nodes
    unfolding view_of
    all-nodes =
        let a = s.free_count in
        let b = length-append (map_nodes (layout_of hfs) image) (tree_nodes (view hfs image)) in
        omega (arith, total)

    sound-few : length (leaf_list (view hfs image)) ≤ 1441792
    sound-few =
        let a = leaves-least (view hfs image) counts-most in
        let b = leaf-nodes (record_count (view hfs image) (leaves_at (view hfs image) (view hfs image).depth)) in
        let c : length image ≤ 65536 * 512 = s.lengths.few in
        omega (arith, all-nodes, list_length)

  -- so it has room for a tree laid down from as many records
  pub sound-wants : (nodes r : ℕ) → length image ≡ nodes * 512 → length (leaf_list (view hfs image)) ≡ r → start (maps_for nodes) r (levels r) ≤ nodes
  sound-wants nodes r long e =
      let a = rw e at (sound-fewest (levels r) (rw e (levels-deep r (rw e at (sound-few nodes long))))) in
      let b = start-size (maps_for nodes) r (levels r) in
      omega (arith, sound-maps nodes long, all-nodes nodes long)

-- of the image laid down
module _ (row : List ℕ) (nodes : ℕ) (room : wanted row nodes ≤ nodes) where
  row-long : records_in row * 20 ≤ length row
  row-long = omega arith

  pub laid-length : length (laid row nodes) ≡ nodes * 512
  unfolding laid wanted
  laid-length = img-length row (maps_for nodes) (records_in row) row-long (levels (records_in row)) nodes room

  -- "the fewest map nodes the target's size needs", after the header
  pub laid-maps : map_nodes (layout_of hfs) (laid row nodes) ≡ range 1 (maps_for nodes)
  unfolding laid wanted
  laid-maps =
      let a = start-low (maps_for nodes) (records_in row) (levels (records_in row)) in
      img-chain row (maps_for nodes) (records_in row) row-long (levels (records_in row)) nodes room (omega arith)

module _ (row : List ℕ) (nodes : ℕ) (law : RowLaw row) (few : nodes ≤ 65536) (room : wanted row nodes ≤ nodes) where
  given : Given row (maps_for nodes) (records_in row) (levels (records_in row)) nodes
  unfolding wanted
  given =
      record {
        long = row-long row nodes room;
        law = law.keys.lawful;
        rise = keys-rise row law;
        deep = levels-deep (records_in row) (records-few (maps_for nodes) (records_in row) (omega arith));
        low = levels-most (records_in row);
        room = room;
        few = few;
        maps = maps-enough nodes;
      }

  -- "The image written is sound"
  pub laid-sound : Sound (layout_of hfs) (laid row nodes) (format_of hfs)
  unfolding laid
  laid-sound = sound row (maps_for nodes) (records_in row) (levels (records_in row)) nodes given

  -- "its leaf records are the row again"
  pub laid-row : leaf_row (laid row nodes) ≡ row
  unfolding laid
  laid-row = row-again row (maps_for nodes) (records_in row) (levels (records_in row)) nodes given (omega (arith, law.whole))

  pub laid-size : length (tree_nodes (view hfs (laid row nodes))) ≡ tree_size (records_in row) (levels (records_in row))
  unfolding laid
  laid-size =
      tree-length (view hfs (laid row nodes)) _ (maps_for nodes) (records_in row) (levels (records_in row)) given.deep
      (shaped row (maps_for nodes) (records_in row) (levels (records_in row)) nodes given)

  -- "no sound tree with those records has fewer tree nodes": none with so many records, and so none with these
  pub laid-fewest : (image : List ℕ) → Sound (layout_of hfs) image (format_of hfs) → length (leaf_list (view hfs image)) ≡ records_in row
      → length (tree_nodes (view hfs (laid row nodes))) ≤ length (tree_nodes (view hfs image))
  laid-fewest image s e = rw laid-size (rw e at (sound-fewest image s (levels (records_in row)) (rw e given.deep)))

  pub laid-least : (image : List ℕ) → Sound (layout_of hfs) image (format_of hfs) → leaf_row image ≡ row
      → length (tree_nodes (view hfs (laid row nodes))) ≤ length (tree_nodes (view hfs image))
  laid-least image s e = laid-fewest image s (let a = row-length image s in omega (arith, ap length e))
