-- The bench images marked *, and those of the requests, have the answers that are listed with them: each is computed.
-- Assumes nothing.
use mathlib.Core.Path.{refl}
use mathlib.Core.Logic.Dec
use mathlib.Core.Logic.{inl, inr}
use mathlib.Core.List.{[], ◌∷◌}
use Prim.Native.Nat.{ℕ}
use native.Mathlib.Decide.{dec_le, dec_lt, ℕ_discrete}
use Rattle.image.specs.Bytes.{be16_at, be32_at}
use Rattle.btree.specs.Decide.{says, map_dec, dec_imp, dec_or, dec_mem, dec_all, first_not}
use Rattle.btree.specs.Walk.{dec_if_some, dec_fresh, dec_key_right, wrong_key, dec_leads, dec_totals, test, ends, closing, walk}
use Rattle.btree.specs.Header.{view_of}
use Rattle.btree.specs.Halving.{halving, halved}
use Rattle.btree.specs.Search.{halved_in, lookup_of}
use Rattle.btree.specs.Image.{map_bytes}
use Rattle.btree.specs.Tests.{dec_descriptor, dec_no_tree, wrong_in, lowest_wrong, bit_for, dec_lengths, dec_map_node, dec_header_node, chain_from, map_record_place, map_byte_place, bit_test, map_tests, verdict}
use Rattle.btree.specs.Work.{checked}
use Rattle.extent_keys.specs.Key.{Lawful, dec_lawful, packed, compared, asked, key_at, rank}
use Rattle.frame.specs.Form.{key_length, node_map_of, key_size}
use Rattle.frame.specs.Kinds.{kind_on, kind_of}
use Rattle.extent_nodes.specs.Records.{data_size, record_size, length_at, dec_key_law, dec_extent_records}
use Rattle.formats.specs.Format.{record_offset, dec_records, dec_node_on}
use Rattle.vectors.specs.Build.{All, e1}
use Rattle.vectors.specs.Bench.{Asks, Says, Right, bench}

-- of E1 nothing but the fork byte is looked at
any-key : (file fork start : ℕ) → Lawful fork → Says e1 (Asks.look (asked file fork start) (12 ∷ 0 ∷ 0 ∷ 0 ∷ 0 ∷ 0 ∷ 0 ∷ 0 ∷ 0 ∷ 0 ∷ 0 ∷ 0 ∷ 0 ∷ []))
unfolding Dec.and Dec.not dec_le dec_lt ℕ_discrete be16_at be32_at says map_dec dec_imp dec_or dec_mem dec_all first_not dec_if_some dec_fresh dec_key_right wrong_key dec_leads dec_totals test ends closing walk halving halved halved_in lookup_of map_bytes dec_descriptor dec_no_tree wrong_in lowest_wrong bit_for dec_lengths dec_map_node dec_header_node chain_from map_record_place map_byte_place bit_test map_tests verdict checked dec_lawful packed compared key_at rank key_length node_map_of kind_on key_size data_size record_size kind_of record_offset length_at dec_key_law dec_extent_records dec_records dec_node_on view_of
any-key file fork start (inl e) = rw e refl
any-key file fork start (inr e) = rw e refl

pub bench-right : All Right bench
unfolding Dec.and Dec.not dec_le dec_lt ℕ_discrete be16_at be32_at says map_dec dec_imp dec_or dec_mem dec_all first_not dec_if_some dec_fresh dec_key_right wrong_key dec_leads dec_totals test ends closing walk halving halved halved_in lookup_of map_bytes dec_descriptor dec_no_tree wrong_in lowest_wrong bit_for dec_lengths dec_map_node dec_header_node chain_from map_record_place map_byte_place bit_test map_tests verdict checked dec_lawful packed compared key_at rank key_length node_map_of kind_on key_size data_size record_size kind_of record_offset length_at dec_key_law dec_extent_records dec_records dec_node_on view_of
bench-right =
    (refl, (refl, (refl, (any-key, (refl, (refl, (refl, (refl, (refl, (refl, (refl, (refl, (refl, (refl, (refl, (refl, (refl, (refl, (refl, (refl, (refl, (refl, (refl, (refl, (refl, (refl, (refl, (refl, (refl, (refl, (refl, (refl, (refl, (refl, (refl, (refl, (refl, (refl, (refl, (refl, tt))))))))))))))))))))))))))))))))))))))))
