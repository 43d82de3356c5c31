-- The turns of the loop over a map's bytes, the bytes of a map, and the header from its parts.
-- Assumes nothing.
use mathlib.Core.Path.{◌≡◌, ap, ◌∙◌}
use mathlib.Core.List.{List, [], ◌∷◌, ◌++◌}
use Prim.Native.Nat.{ℕ, suc, ◌+◌, ◌-◌, ◌*◌, ◌^◌, ◌≤◌, ◌<◌, min}
use native.Mathlib.Omega.{arith}
use native.Mathlib.Decide.{dec_lt}
use lib.ListN.{length, replicate}
use Rattle.btree.specs.Decide.{cond}
use Rattle.btree.specs.Lists.{span}
use Rattle.shape.specs.Shape.{start}
use Rattle.laid.specs.Laid.{described, map_byte, map_part, map_node, root_for, first_for, last_for, header_start, header}
use Rattle.laid.proofs.Bytes.{span-length}
use Rattle.laid.proofs.Nodes.{part_length, map-length}
use Rattle.map_writer.specs.Parts.{front, numbers, header_words}

pub part-on : (u k n : ℕ) → k < n → map_part u k (n - k) ≡ (map_byte u k ∷ []) ++ map_part u (k + 1) (n - (k + 1))
unfolding map_part
part-on u k n l =
    let z : n - k ≡ suc (n - (k + 1)) = omega arith in
    let y : k + 1 ≡ suc k = omega arith in
    rw (z, y)

pub part_end : (u k n : ℕ) → n ≤ k → map_part u k (n - k) ≡ []
unfolding map_part
part_end u k n l = let z : n - k ≡ 0 = omega arith in rw z

pub part-long : (u from n : ℕ) → length (map_part u from n) ≡ n
part-long u from n = part_length u from n

-- a byte of the map by how many of its bits are used
pub byte-some : (u k n : ℕ) → min 8 (u - 8 * k) ≡ n → 256 - 2 ^ (8 - n) ≡ map_byte u k
unfolding map_byte
byte-some u k n e = rw e

-- the link of map node i, as the code reckons it
pub map-linked : (i m r : ℕ) → r ≡ cond (dec_lt (i + 1) m) (1 + (i + 1)) 0 → (rest : List ℕ)
    → described r 0 2 0 1 ++ rest ≡ described (cond (dec_lt (suc i) m) (suc (suc i)) 0) 0 2 0 1 ++ rest
map-linked i m r e rest =
    let z : i + 1 ≡ suc i = omega arith in
    let y : 1 + suc i ≡ suc (suc i) = omega arith in
    ap (λ f. described f 0 2 0 1 ++ rest) (e ∙ ap (λ x. cond (dec_lt x m) (1 + x) 0) z ∙ ap (λ x. cond (dec_lt (suc i) m) x 0) y)

-- the header
pub header_is : (m r D nodes root first last used : ℕ) → root ≡ root_for m r D → first ≡ first_for m r D → last ≡ last_for m r D → used ≡ start m r D
    → front m D root r ++ (numbers first last nodes (nodes - used) ++ (replicate 204 0 ++ (map_part used 0 256 ++ header_words))) ≡ header m r D nodes
unfolding front numbers header header_start described
header_is m r D nodes root first last used e₁ e₂ e₃ e₄ = rw (e₁, e₂, e₃, e₄)

pub maps-long : (m used : ℕ) → length (span 0 m (map_node m used)) ≡ 512 * m
maps-long m used = span-length 512 0 m (map_node m used) (λ i l u. map-length m used i) ∙ omega arith
