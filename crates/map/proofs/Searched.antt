-- Test 9 along the map records, as code makes it: where nothing was found before a node, what is left from it on gives what the whole map gives.
-- Assumes nothing.
use mathlib.Core.Path.{◌≡◌, refl, sym, ap, ◌∙◌}
use mathlib.Core.Logic.{◌⊎◌}
use mathlib.Core.Option.{Option, none, some}
use mathlib.Core.List.Memᴰ
use mathlib.Core.List.{List, ◌∷◌}
use Prim.Native.Nat.{ℕ, ◌+◌, ◌-◌, ◌*◌, ◌/◌, ◌≤◌, ◌<◌}
use native.Mathlib.Omega.{arith}
use lib.ListN.{length, take, drop}
use Rattle.image.specs.Bit.{bit_of}
use Rattle.btree.specs.Places.{byte_of}
use Rattle.btree.specs.Lists.{◌∈◌, gather, along}
use Rattle.btree.specs.Layout.{Layout, header_map_at, first_record_at}
use Rattle.btree.specs.Header.{total_of, forward_of, map_nodes}
use Rattle.btree.specs.Image.{map_record, map_bytes}
use Rattle.btree.specs.Walk.{fine, fails}
use Rattle.btree.specs.Tests.{or_some, lowest_wrong, map_record_place, map_byte_place, bit_place, bit_test}
use Rattle.btree.proofs.Lists.{part_length}
use Rattle.btree.proofs.Along.{along-on, along-end}
use Rattle.btree.proofs.MapBits.{node-inside}
use Rattle.btree.proofs.MapPlaces.{byte-header, byte_past, byte-here, byte_next}
use Rattle.frame.specs.declared.form.Form.{Form}
use Rattle.frame.specs.Form.{layout_of}
use Rattle.frame.proofs.Forms.{nodes-few, fits}
use Rattle.map.specs.Framed.{Framed}
use Rattle.map.proofs.Bits.{lowest-append, lowest-range}

-- the wrong bit in the map records of these nodes, the first of which starts at the map's byte `first`
abbrev pub in_records : Layout → List ℕ → List ℕ → ℕ → List ℕ → Option ℕ
in_records l img bits first ns = lowest_wrong (bit_of bits) (8 * first) (gather (map_record l img) ns)

pub record Searched (l : Layout) (img bits : List ℕ) (first node left : ℕ) : Type 0 where
  pub answer : lowest_wrong (bit_of bits) 0 (map_bytes l img) ≡ in_records l img bits first (along (forward_of l img) left node)
  pub places : (b : ℕ) → map_byte_place l img (first + b) ≡ map_record_place l img (along (forward_of l img) left node) b
  pub inside : (n : ℕ) → n ∈ along (forward_of l img) left node → n < total_of img
  -- by the largest nodes, where the records' own size would make a product of two variables
  pub few : first + 32768 * left ≤ 32768 + 32768 * total_of img

-- a search of a part goes by where it starts and how long it is
pub in-part : {o : Option ℕ} (bits img : List ℕ) (first at n start size : ℕ)
    → o ≡ lowest_wrong (bit_of bits) first (take n (drop at img)) → at ≡ start → n ≡ size → o ≡ lowest_wrong (bit_of bits) first (take size (drop start img))
in-part bits img first at n start size e p q = rw (← p, ← q) e

-- what test 9 says where the lowest wrong bit is k, and where there is none
module _ (l : Layout) (img bits : List ℕ) where
  wrong-bit : (k : ℕ) → some k ≡ lowest_wrong (bit_of bits) 0 (map_bytes l img) → fails 9 (bit_place l img k) ≡ bit_test l img (bit_of bits)
  unfolding bit_test
  wrong-bit k e = rw (← e)

  no-wrong-bit : lowest_wrong (bit_of bits) 0 (map_bytes l img) ≡ none → fine ≡ bit_test l img (bit_of bits)
  unfolding bit_test
  no-wrong-bit e = rw e

module _ (form : Form) (img : List ℕ) (framed : Framed form img) where
  abbrev l : Layout
  l = layout_of form

  pub few-nodes : total_of img ≤ 65536
  few-nodes = rw framed.total_nodes (nodes-few form (length img) framed.lengths.few)

  -- the records stand inside their nodes
  pub node-map-inside : first_record_at + l.node_map ≤ form.size
  node-map-inside = omega (arith, (fits form framed.fair).node)

  header-inside : header_map_at + l.header_map ≤ length img
  header-inside = let s = framed.lengths.some in omega (arith, framed.fair.least)

  module _ (bits : List ℕ) where
    abbrev header : List ℕ
    header = take l.header_map (drop header_map_at img)

    header-long : length header ≡ l.header_map
    header-long = part_length img header_map_at l.header_map header-inside

    -- the header's map record comes first
    header-first : lowest_wrong (bit_of bits) 0 (map_bytes l img) ≡ or_some (lowest_wrong (bit_of bits) 0 header) (in_records l img bits l.header_map (map_nodes l img))
    unfolding map_bytes
    header-first =
        let q = header-long in
        let e : 0 + 8 * length header ≡ 8 * l.header_map = omega arith in
        lowest-append (bit_of bits) 0 header (gather (map_record l img) (map_nodes l img)) ∙ rw e

    module _ (k : ℕ) (e : some k ≡ lowest_wrong (bit_of bits) 0 header) where
      pub header-range : k < 8 * l.header_map
      header-range = let q = header-long in let (a, b) = lowest-range (bit_of bits) 0 header k (sym e) in omega arith

      pub header-found : fails 9 (byte_of 0 (header_map_at + k / 8)) ≡ bit_test l img (bit_of bits)
      header-found =
          let r = header-range in
          ap (fails 9) (sym (byte-header l img (k / 8) (omega arith))) ∙ wrong-bit l img bits k (sym (header-first ∙ rw (← e)))

    pub searched-header : none ≡ lowest_wrong (bit_of bits) 0 header → Searched l img bits l.header_map (forward_of l img 0) (total_of img)
    searched-header e =
        record {
          answer = header-first ∙ rw (← e);
          places = byte_past l img;
          inside = framed.chain.in_range;
          few = omega (arith, framed.fair.most);
        }

    pub searched-end : (first node left : ℕ) → Searched l img bits first node left → (left ≡ 0) ⊎ (node ≡ 0) → fine ≡ bit_test l img (bit_of bits)
    unfolding lowest_wrong
    searched-end first node left s e = no-wrong-bit l img bits (s.answer ∙ rw (along-end (forward_of l img) left node e))

    module _ (first node left : ℕ) (s : Searched l img bits first node left) (more : 0 < left) (some-node : node ≡ 0 → ⊥) where
      abbrev onward : List ℕ
      onward = along (forward_of l img) (left - 1) (forward_of l img node)

      on : along (forward_of l img) left node ≡ node ∷ onward
      on = along-on (forward_of l img) left node more some-node

      pub record-inside : node * form.size + form.size ≤ length img
      record-inside = node-inside l (fits form framed.fair) img framed.lengths framed.total_nodes node (s.inside node (rw on (Memᴰ.head refl)))

      record-long : length (map_record l img node) ≡ l.node_map
      record-long = let r = record-inside in let m = node-map-inside in part_length img (node * form.size + first_record_at) l.node_map (omega arith)

      record-first : lowest_wrong (bit_of bits) 0 (map_bytes l img)
          ≡ or_some (lowest_wrong (bit_of bits) (8 * first) (map_record l img node)) (in_records l img bits (first + l.node_map) onward)
      record-first =
          let q = record-long in
          let e : 8 * first + 8 * length (map_record l img node) ≡ 8 * (first + l.node_map) = omega arith in
          s.answer ∙ ap (in_records l img bits first) on
          ∙ lowest-append (bit_of bits) (8 * first) (map_record l img node) (gather (map_record l img) onward) ∙ rw e

      module _ (k : ℕ) (e : some k ≡ lowest_wrong (bit_of bits) (8 * first) (map_record l img node)) where
        pub record-range : (8 * first ≤ k) × (k < 8 * first + 8 * l.node_map)
        record-range = let q = record-long in let (a, b) = lowest-range (bit_of bits) (8 * first) (map_record l img node) k (sym e) in (a, omega arith)

        pub record-found : fails 9 (byte_of node (first_record_at + (k / 8 - first))) ≡ bit_test l img (bit_of bits)
        record-found =
            let (a, b) = record-range in
            let j : k / 8 ≡ first + (k / 8 - first) = omega arith in
            let p : bit_place l img k ≡ byte_of node (first_record_at + (k / 8 - first)) =
            ap (map_byte_place l img) j ∙ s.places (k / 8 - first) ∙ ap (λ (ns : List ℕ). map_record_place l img ns (k / 8 - first)) on
            ∙ byte-here l img node onward (k / 8 - first) (omega arith)
            in
            ap (fails 9) (sym p) ∙ wrong-bit l img bits k (sym (record-first ∙ rw (← e)))

      pub searched-more : {later next : ℕ} → later ≡ first + l.node_map → next ≡ forward_of l img node → none ≡ lowest_wrong (bit_of bits) (8 * first) (map_record l img node)
          → Searched l img bits later next (left - 1)
      searched-more p q e =
          rw (p, q)
          record {
            answer = record-first ∙ rw (← e);
            places = λ b. let j : first + l.node_map + b ≡ first + (l.node_map + b) = omega arith in
                ap (map_byte_place l img) j ∙ s.places (l.node_map + b) ∙ ap (λ (ns : List ℕ). map_record_place l img ns (l.node_map + b)) on ∙ byte_next l img node onward b;
            inside = λ n m. s.inside n (rw on (Memᴰ.tail m));
            few = let f = s.few in let m = node-map-inside in omega (arith, framed.fair.most);
          }
