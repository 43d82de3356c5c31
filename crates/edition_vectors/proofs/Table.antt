-- The calls for an edition and a node size have the answers that are listed with them: each is computed.
-- Assumes nothing.
use mathlib.Core.Path.{refl}
use mathlib.Core.Logic.Dec
use native.Mathlib.Decide.{dec_le, dec_lt, ℕ_discrete}
use Rattle.image.specs.Bytes.{be16_at, be32_at}
use Rattle.btree.specs.Decide.{says, map_dec, dec_imp, dec_or, dec_mem, dec_all, first_not}
use Rattle.btree.specs.Walk.{dec_if_some, dec_fresh, dec_key_right, wrong_key, dec_leads, dec_totals, test, ends, closing, walk}
use Rattle.btree.specs.Header.{view_of}
use Rattle.btree.specs.Halving.{halving, halved}
use Rattle.btree.specs.Search.{halved_in, lookup_of}
use Rattle.btree.specs.Image.{map_bytes}
use Rattle.btree.specs.Tests.{dec_descriptor, dec_no_tree, wrong_in, lowest_wrong, bit_for, dec_lengths, dec_map_node, dec_header_node, chain_from, map_record_place, map_byte_place, bit_test, map_tests, verdict}
use Rattle.btree.specs.Work.{bits_for, checked, needed_left, work_left}
use Rattle.frame.specs.Form.{dec_listed, key_length, node_map_of, key_size}
use Rattle.extent_keys.specs.Key.{dec_lawful, key_at, rank}
use Rattle.frame.specs.Kinds.{kind_on, kind_of}
use Rattle.extent_nodes.specs.Records.{data_size, record_size, length_at, dec_key_law, dec_extent_records}
use Rattle.formats.specs.Format.{record_offset, dec_records, dec_node_on}
use Rattle.order.specs.Whole.{dec_whole_leaf}
use Rattle.scan.specs.Seen.{seen_in, seen_from}
use Rattle.reader.specs.Reader.{salvaged}
use Rattle.editions.specs.Editions.{checked_as, looked_up_as, salvaged_as}
use Rattle.vectors.specs.Build.{All}
use Rattle.edition_vectors.specs.Table.{Right, editions}

pub editions-right : All Right editions
unfolding Dec.and Dec.not dec_le dec_lt ℕ_discrete be16_at be32_at says map_dec dec_imp dec_or dec_mem dec_all first_not dec_if_some dec_fresh dec_key_right wrong_key dec_leads dec_totals test ends closing walk halving halved halved_in lookup_of map_bytes dec_descriptor dec_no_tree wrong_in lowest_wrong bit_for dec_lengths dec_map_node dec_header_node chain_from map_record_place map_byte_place bit_test map_tests verdict bits_for checked needed_left work_left dec_listed dec_lawful key_at rank key_length node_map_of kind_on key_size data_size record_size kind_of record_offset length_at dec_key_law dec_extent_records dec_records dec_node_on view_of dec_whole_leaf seen_in seen_from salvaged checked_as looked_up_as salvaged_as
editions-right =
    (refl, (refl, (refl, (refl, (refl, (refl, (refl, (refl, (refl, (refl, (refl, (refl, (refl, (refl, (refl, (refl, (refl, (refl, (refl, (refl, (refl, (refl, (refl, (refl, (refl, (refl, (refl, (refl, (refl, (refl, (refl, (refl, (refl, (refl, (refl, (refl, (refl, tt)))))))))))))))))))))))))))))))))))))
