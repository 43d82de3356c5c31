-- The image laid down is sound.
-- Assumes nothing.
use mathlib.Core.Path.{◌≡◌, refl, sym, ap, ◌∙◌, subst}
use mathlib.Core.List.{List, ◌++◌}
use Prim.Native.Nat.{ℕ, zero, suc, ◌+◌, ◌-◌, ◌*◌, ◌≤◌, ◌<◌}
use native.Mathlib.Omega.{arith}
use native.Mathlib.Decide.{ℕ_discrete, dec_lt}
use lib.ListN.{length}
use Rattle.image.specs.Bytes.{be16_at}
use Rattle.image.specs.Bit.{bit_of}
use Rattle.btree.specs.Lists.{◌∈◌, last_or}
use Rattle.btree.specs.Tree.{View, LaidOut, SoundTree, LeafTotals, reached}
use Rattle.btree.specs.Header.{depth_of, total_of, forward_of, map_nodes, view_of}
use Rattle.btree.specs.Image.{Lengths, HeaderNode, MapChain, map_bytes, MapBits, Sound}
use Rattle.btree.proofs.Decisions.{cond_yes, cond_no}
use Rattle.frame.specs.Form.{hfs, key_length, layout_of, node_map_of}
use Rattle.frame.specs.Kinds.{kind_on, kind_of}
use Rattle.extent_nodes.specs.Records.{KeyLaw, start_at}
use Rattle.formats.specs.Format.{rank_at, Records, NodeOn, format_of, view}
use Rattle.put.specs.Put.{be16}
use Rattle.shape.specs.Shape.{first_in, record_under, nodes_at, held, start}
use Rattle.shape.proofs.Shape.{row_inside, held-most, held-some, held-inside, start-low, nodes-some}
use Rattle.shape.proofs.Shaped.{Deep, range, Shaped}
use Rattle.shape.proofs.Levels.{range-in, range-once, range_last, range_length, spot}
use Rattle.shape.proofs.Tree.{tree-sound, tree-totals}
use Rattle.shape.proofs.Reach.{reached-length, reached-low, low-reached}
use Rattle.laid.specs.Laid.{map_part, kind_at, back_to, root_for, first_for, last_for, image_nodes, joined}
use Rattle.laid.proofs.Bytes.{same-16}
use Rattle.laid.proofs.Keys.{same-law}
use Rattle.laid.proofs.Nodes.{fits}
use Rattle.laid.proofs.Fields.{size_of, i-forward, i-back, i-kind, i-level, i-count, i-reserved, i-offset, i-row, i-key, i-child}
use Rattle.laid.proofs.Header.{img-length, img-depth, img-root, img-records, img-first, img-last, img-size, img-key, img-total, img-free, img-start, img-words, img-next, img-link, img-chain, img-map, img-bytes}
use Rattle.laid.proofs.Bits.{bit-set, bit-clear}

pub kind-on : (h : ℕ) → kind_on (suc h) ≡ kind_at h
unfolding kind_on kind_at
kind-on zero = cond_yes (ℕ_discrete 1 1) 255 0 refl
kind-on (suc h) = cond_no (ℕ_discrete (suc (suc h)) 1) 255 0 (λ e. omega arith)

words : (be16_at (be16 504 ++ (be16 248 ++ (be16 120 ++ be16 14))) 0 ≡ 504) × (be16_at (be16 504 ++ (be16 248 ++ (be16 120 ++ be16 14))) 2 ≡ 248) × (be16_at (be16 504 ++ (be16 248 ++ (be16 120 ++ be16 14))) 4 ≡ 120) × (be16_at (be16 504 ++ (be16 248 ++ (be16 120 ++ be16 14))) 6 ≡ 14)
unfolding be16_at
words = (refl, refl, refl, refl)

-- what is asked of the row, of r records, and of the numbers
pub record Given (row : List ℕ) (m r D nodes : ℕ) : Type 0 where
  pub long : r * 20 ≤ length row
  pub law : (q : ℕ) → q < r → KeyLaw hfs row (q * 20)
  pub rise : (p q : ℕ) → p < q → q < r → rank_at hfs row (p * 20) < rank_at hfs row (q * 20)
  pub deep : Deep r D
  pub low : D ≤ 8
  pub room : start m r D ≤ nodes
  pub few : nodes ≤ 65536
  pub maps : nodes ≤ 8 * (256 + 494 * m)

module _ (row : List ℕ) (m r D nodes : ℕ) (g : Given row m r D nodes) where
  abbrev pub img : List ℕ
  img = joined (image_nodes row m r D nodes)

  abbrev pub keys : ℕ → ℕ
  keys q = rank_at hfs row (q * 20)

  map-room : m ≤ nodes
  map-room = let a = start-low m r D in omega (arith, g.room)

  pub shaped : Shaped (view hfs img) keys m r D
  unfolding view_of root_for first_for last_for back_to
  shaped =
      record {
        depth = img-depth row m r g.long D nodes g.room;
        root = λ h e. img-root row m r g.long D nodes g.room ∙ ap (root_for m r) e;
        leaf_records = img-records row m r g.long D nodes g.room;
        no_first = λ e. img-first row m r g.long D nodes g.room ∙ ap (first_for m r) e;
        no_last = λ e. img-last row m r g.long D nodes g.room ∙ ap (last_for m r) e;
        first_leaf = λ l. let z : D ≡ suc (D - 1) = omega arith in img-first row m r g.long D nodes g.room ∙ ap (first_for m r) z;
        last_leaf = λ k l e.
            let z : D ≡ suc (D - 1) = omega arith in
            let y : start m r 0 + (nodes_at r 0 - 1) ≡ start m r 0 + k = omega arith in
            img-last row m r g.long D nodes g.room ∙ ap (last_for m r) z ∙ y;
        room = rw (img-total row m r g.long D nodes g.room) g.room;
        chain = img-chain row m r g.long D nodes g.room map-room;
        count = λ h k l u. i-count row m r g.long D nodes g.room h k l u;
        key = λ h k i l u b. i-key row m r g.long D nodes g.room h k l u i b;
        child = λ h k i l u b. i-child row m r g.long D nodes g.room h k l u i b;
        forward = λ h k l u. i-forward row m r g.long D nodes g.room h k l (omega arith) ∙ cond_yes (dec_lt (suc k) (nodes_at r h)) _ 0 u;
        forward_end = λ h k l e. i-forward row m r g.long D nodes g.room h k l (omega arith) ∙ cond_no (dec_lt (suc k) (nodes_at r h)) _ 0 (λ u. omega arith);
        back_start = λ h l. i-back row m r g.long D nodes g.room h 0 l (let a = nodes-some g.deep h l in omega arith);
        back = λ h k l u. i-back row m r g.long D nodes g.room h (suc k) l u;
      }

  sound-tree : SoundTree (view hfs img)
  sound-tree = tree-sound (view hfs img) keys m r D g.deep shaped g.rise

  sound-totals : LeafTotals (view hfs img)
  sound-totals = tree-totals (view hfs img) keys m r D g.deep shaped g.rise

  -- a node of the tree as its level asks
  module _ (d h k : ℕ) (e : d + suc h ≡ D) (l : h < D) (u : k < nodes_at r h) where
    key-law : (i : ℕ) → i < held r h k → KeyLaw hfs img (start_at hfs (kind_at h) (start m r h + k) i)
    key-law i b =
        let q = row_inside r h (first_in h k + i) (held-inside r h k i b) in
        rw (size_of h) (same-law (i-row row m r g.long D nodes g.room h k l u i b) (omega arith) (g.law (record_under h (first_in h k + i)) q))

    records : Records hfs img (kind_at h) (start m r h + k)
    unfolding kind_of
    records =
        let c = i-count row m r g.long D nodes g.room h k l u in
        let f = fits h (held r h k) (held-most r h k) in
        record {
          is_kind = i-kind row m r g.long D nodes g.room h k l u;
          reserved = i-reserved row m r g.long D nodes g.room h k l u;
          some = rw c (held-some r h k u);
          extents = λ t. record {
            few = rw (c, size_of h) (omega arith);
            offsets = λ i b. rw (size_of h) (i-offset row m r g.long D nodes g.room h k l u i (omega arith));
            keys = λ i b. key-law i (omega arith);
          };
          catalog = λ t. absurd (omega arith);
        }

    node-on : NodeOn hfs img (depth_of img) (start m r h + k) d
    node-on =
        let p = img-depth row m r g.long D nodes g.room in
        let v = i-level row m r g.long D nodes g.room h k l u in
        record { level = omega arith; records = rw (v, kind-on h) records }

  laid_out : LaidOut (view hfs img)
  unfolding view_of
  laid_out d n o =
      let l : d < D = omega (arith, o.deep, img-depth row m r g.long D nodes g.room) in
      let p = spot (view hfs img) keys m r D g.deep shaped d (D - suc d) n (omega arith) o in
      subst (λ x. NodeOn hfs img (depth_of img) x d) (sym p.numbered) (node-on d (D - suc d) p.index (omega arith) (omega arith) p.inside)

  sound-lengths : Lengths (layout_of hfs) img
  sound-lengths =
      let a = img-length row m r g.long D nodes g.room in
      let b = start-low m r D in
      record { whole = rw a (omega arith); some = rw a (omega (arith, g.room)); few = rw a (omega (arith, g.few)) }

  sound-header : HeaderNode (layout_of hfs) img (key_length hfs)
  unfolding key_length root_for first_for last_for
  sound-header =
      let w = img-words row m r g.long D nodes g.room in
      let p = img-depth row m r g.long D nodes g.room in
      record {
        start = img-start row m r g.long D nodes g.room;
        free_at = same-16 w 0 (omega arith) ∙ words.0;
        map_at = same-16 w 2 (omega arith) ∙ words.1;
        second_at = same-16 w 4 (omega arith) ∙ words.2;
        record_at = same-16 w 6 (omega arith) ∙ words.3;
        is_size = img-size row m r g.long D nodes g.room;
        is_key_length = img-key row m r g.long D nodes g.room;
        total_nodes = img-total row m r g.long D nodes g.room ∙ rw (img-length row m r g.long D nodes g.room) (omega arith);
        depth_in_range = rw p g.low;
        no_tree = λ e.
            let z : D ≡ 0 = sym p ∙ e in
            record {
              root = img-root row m r g.long D nodes g.room ∙ ap (root_for m r) z;
              leaf_records = img-records row m r g.long D nodes g.room ∙ g.deep.none z;
              first_leaf = img-first row m r g.long D nodes g.room ∙ ap (first_for m r) z;
              last_leaf = img-last row m r g.long D nodes g.room ∙ ap (last_for m r) z;
            };
      }

  sound-chain : MapChain (layout_of hfs) img
  unfolding node_map_of
  sound-chain =
      record {
        ends = ap (λ x. forward_of (layout_of hfs) img (last_or 0 x)) c ∙ last m refl;
        in_range = λ n w. let (a, b) = range-in 1 m (rw c at w) in let f = start-low m r D in rw (img-total row m r g.long D nodes g.room) (omega (arith, g.room));
        once = rw c (range-once 1 m);
        nodes = λ n w.
            let (a, b) = range-in 1 m (rw c at w) in
            let z : suc (n - 1) ≡ n = omega arith in
            rw z at (img-map row m r g.long D nodes g.room (n - 1) (omega arith));
        enough = rw (c, range_length 1 m, img-total row m r g.long D nodes g.room) g.maps;
      }
    where
      c : map_nodes (layout_of hfs) img ≡ range 1 m
      c = img-chain row m r g.long D nodes g.room map-room

      last : (x : ℕ) → m ≡ x → forward_of (layout_of hfs) img (last_or 0 (range 1 x)) ≡ 0
      last zero e = img-next row m r g.long D nodes g.room ∙ cond_no (dec_lt 0 m) 1 0 (λ l. omega arith)
      last (suc x) e =
          let z : 1 + x ≡ suc x = omega arith in
          ap (forward_of (layout_of hfs) img) (range_last 0 1 x ∙ z)
          ∙ img-link row m r g.long D nodes g.room x (omega arith) ∙ cond_no (dec_lt (suc x) m) _ 0 (λ l. omega arith)

  sound-bits : MapBits (layout_of hfs) img (reached (view hfs img))
  sound-bits =
      record {
        used = λ n l. (λ b. up n b (dec_lt n (start m r D)), λ w. rw c (bit-set (start m r D) (256 + 494 * m) n (room n l) (reached-low v keys m r D g.deep shaped n w)));
        beyond = λ n l. rw c (bit-clear (start m r D) (256 + 494 * m) n (let a = rw (img-total row m r g.long D nodes g.room) at l in omega (arith, g.room)));
      }
    where
      v : View
      v = view hfs img

      c : map_bytes (layout_of hfs) img ≡ map_part (start m r D) 0 (256 + 494 * m)
      c = img-bytes row m r g.long D nodes g.room map-room

      room : (n : ℕ) → n < total_of img → n < 8 * (256 + 494 * m)
      room n l = let a = rw (img-total row m r g.long D nodes g.room) at l in omega (arith, g.maps)

      up : (n : ℕ) → bit_of (map_bytes (layout_of hfs) img) n ≡ 1 → Dec (n < start m r D) → n ∈ reached v
      up n b (yes l) = low-reached v keys m r D g.deep shaped n l
      up n b (no l) = let a = rw c at b in let z = bit-clear (start m r D) (256 + 494 * m) n (omega arith) in absurd (omega arith)

  pub sound : Sound (layout_of hfs) img (format_of hfs)
  sound =
      record {
        lengths = sound-lengths;
        header = sound-header;
        chain = sound-chain;
        nodes = laid_out;
        tree = sound-tree;
        totals = sound-totals;
        map_bits = sound-bits;
        free_count =
            let a = reached-length (view hfs img) keys m r D g.deep shaped in
            rw (a, img-free row m r g.long D nodes g.room, img-total row m r g.long D nodes g.room) (omega (arith, g.room));
      }
