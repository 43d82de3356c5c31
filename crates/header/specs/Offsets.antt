-- The offset words at the end of the header node.
-- Assumes nothing.
use Rattle.std.specs.Prelude.{◌≡◌, List, ℕ, ◌+◌, ◌-◌}
use Rattle.std.proofs.Math.Logic.Dec
use Rattle.std.proofs.Math.Decide.{ℕ_discrete}
use Rattle.image.specs.Bytes.{be16_at}
use Rattle.btree.specs.Decide.{map_dec}
use Rattle.btree.specs.Layout.{Layout, header_map_at, first_record_at}

-- "the last eight bytes 01F8 00F8 0078 000E"; W-211: a header "whose free offset is the node size less 8"
pub record Offsets (l : Layout) (img : List ℕ) : Type 0 where
  pub free_at : be16_at img (l.node_size - 8) ≡ header_map_at + l.header_map
  pub map_at : be16_at img (l.node_size - 6) ≡ header_map_at
  pub second_at : be16_at img (l.node_size - 4) ≡ 120
  pub record_at : be16_at img (l.node_size - 2) ≡ first_record_at

unfoldable pub dec_offsets : (l : Layout) (img : List ℕ) → Dec (Offsets l img)
dec_offsets l img =
    map_dec
    (λ (((a, b), c), d). record { free_at = a; map_at = b; second_at = c; record_at = d })
    (λ s. (((s.free_at, s.map_at), s.second_at), s.record_at))
    (Dec.and (Dec.and (Dec.and
    (ℕ_discrete (be16_at img (l.node_size - 8)) (header_map_at + l.header_map))
    (ℕ_discrete (be16_at img (l.node_size - 6)) header_map_at))
    (ℕ_discrete (be16_at img (l.node_size - 4)) 120))
    (ℕ_discrete (be16_at img (l.node_size - 2)) first_record_at))
