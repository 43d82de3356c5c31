-- Where the bytes of the map stand: byte after byte, record after record; each place is that of the map's own byte.
-- Assumes nothing.
use mathlib.Core.Path.{◌≡◌, refl, sym, ap, ◌∙◌}
use mathlib.Core.List.Memᴰ
use mathlib.Core.List.{List, [], ◌∷◌, ◌++◌}
use Prim.Native.Nat.{ℕ, ◌+◌, ◌-◌, ◌*◌, ◌/◌, ◌<◌}
use native.Mathlib.Decide.{dec_lt}
use native.Mathlib.Nat.{mul-suc}
use native.Mathlib.Omega.{arith}
use lib.ListN.{length, get_or, take, drop, get_or-append}
use lib.Seq.{get_or-append-add}
use Rattle.btree.specs.Lists.{◌∈◌, gather}
use Rattle.btree.specs.Layout.{Layout, Fits, header_map_at, first_record_at}
use Rattle.btree.specs.Places.{byte_of, image_offset}
use Rattle.btree.specs.Header.{total_of, map_nodes}
use Rattle.btree.specs.Image.{Lengths, map_size, MapChain, map_record, map_bytes}
use Rattle.btree.specs.Tests.{map_record_place, map_byte_place}
use Rattle.btree.proofs.Decisions.{cond_yes, cond_no}
use Rattle.btree.proofs.Lists.{part_length, part_at}
use Rattle.btree.proofs.MapBits.{node-inside}

module _ (l : Layout) (img : List ℕ) where
  open l use {header_map, node_map}

  pub byte-header : (b : ℕ) → b < header_map → map_byte_place l img b ≡ byte_of 0 (header_map_at + b)
  unfolding map_byte_place
  byte-header b h = cond_yes (dec_lt b header_map) _ _ h

  pub byte_past : (b : ℕ) → map_byte_place l img (header_map + b) ≡ map_record_place l img (map_nodes l img) b
  unfolding map_byte_place
  byte_past b =
      let e : header_map + b - header_map ≡ b = omega arith in
      cond_no (dec_lt (header_map + b) header_map) _ _ (λ h. omega arith) ∙ ap (map_record_place l img (map_nodes l img)) e

  module _ (n : ℕ) (ns : List ℕ) where
    pub byte-here : (b : ℕ) → b < node_map → map_record_place l img (n ∷ ns) b ≡ byte_of n (first_record_at + b)
    unfolding map_record_place
    byte-here b h = cond_yes (dec_lt b node_map) _ _ h

    pub byte_next : (b : ℕ) → map_record_place l img (n ∷ ns) (node_map + b) ≡ map_record_place l img ns b
    unfolding map_record_place
    byte_next b =
        let e : node_map + b - node_map ≡ b = omega arith in
        cond_no (dec_lt (node_map + b) node_map) _ _ (λ h. omega arith) ∙ ap (map_record_place l img ns) e

-- each place is that of the map's own byte
module _ (l : Layout) (fits : Fits l) (img : List ℕ) (lengths : Lengths l img) (whole : total_of img ≡ length img / l.node_size) where
  open l use {node_size, header_map, node_map}

  abbrev there_in : List ℕ → ℕ → Type 0
  there_in ns b = get_or img (image_offset l (map_record_place l img ns b)) 0 ≡ get_or (gather (map_record l img) ns) b 0

  record-there : (ns : List ℕ) → ((n : ℕ) → n ∈ ns → n < total_of img) → (b : ℕ) → b < node_map * length ns → there_in ns b
  record-there [] h b u = absurd (omega arith)
  record-there (n ∷ ns) h b u = go (dec_lt b node_map) (record-there ns (λ m w. h m (Memᴰ.tail w)))
    where
      long : length (map_record l img n) ≡ node_map
      long =
          let a = node-inside l fits img lengths whole n (h n (Memᴰ.head refl)) in
          part_length img (n * node_size + first_record_at) node_map (omega (arith, fits.node))

      go : Dec (b < node_map) → ((c : ℕ) → c < node_map * length ns → there_in ns c) → there_in (n ∷ ns) b
      go (yes q) r =
          let e : n * node_size + (first_record_at + b) ≡ n * node_size + first_record_at + b = omega arith in
          rw (byte-here l img n ns b q, e)
          (sym (part_at img (n * node_size + first_record_at) node_map b q) ∙ sym (get_or-append (map_record l img n) (gather (map_record l img) ns) 0 b (omega (arith, long))))
      go (no q) r =
          let c = b - node_map in
          let e : b ≡ node_map + c = omega arith in
          let m = mul-suc node_map (length ns) in
          ap (λ (k : ℕ). get_or img (image_offset l (map_record_place l img (n ∷ ns) k)) 0) e
          ∙ rw (byte_next l img n ns c) (r c (omega arith))
          ∙ sym (get_or-append-add (map_record l img n) (gather (map_record l img) ns) c 0)
          ∙ ap (λ (k : ℕ). get_or (map_record l img n ++ gather (map_record l img) ns) k 0) (let k = long in omega arith)

  pub map-there : MapChain l img → (b : ℕ) → b < map_size l img → get_or img (image_offset l (map_byte_place l img b)) 0 ≡ get_or (map_bytes l img) b 0
  unfolding map_bytes
  map-there chain b u = go (dec_lt b header_map)
    where
      header : List ℕ
      header = take header_map (drop header_map_at img)

      long : length header ≡ header_map
      long = part_length img header_map_at header_map (let z = lengths.some in omega (arith, fits.header))

      go : Dec (b < header_map) → get_or img (image_offset l (map_byte_place l img b)) 0 ≡ get_or (header ++ gather (map_record l img) (map_nodes l img)) b 0
      go (yes q) =
          let e : 0 * node_size + (header_map_at + b) ≡ header_map_at + b = omega arith in
          rw (byte-header l img b q, e)
          (sym (part_at img header_map_at header_map b q) ∙ sym (get_or-append header (gather (map_record l img) (map_nodes l img)) 0 b (omega (arith, long))))
      go (no q) =
          let c = b - header_map in
          let e : b ≡ header_map + c = omega arith in
          ap (λ (k : ℕ). get_or img (image_offset l (map_byte_place l img k)) 0) e
          ∙ rw (byte_past l img c) (record-there (map_nodes l img) chain.in_range c (omega arith))
          ∙ sym (get_or-append-add header (gather (map_record l img) (map_nodes l img)) c 0)
          ∙ ap (λ (k : ℕ). get_or (header ++ gather (map_record l img) (map_nodes l img)) k 0) (let k = long in omega arith)
