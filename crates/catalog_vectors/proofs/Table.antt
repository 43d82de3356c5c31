-- The calls on small catalogs have the answers that are listed with them: each is computed.
-- Assumes nothing.
use mathlib.Core.Path.{◌≡◌, refl, subst⁻¹}
use mathlib.Core.List.{List, [], ◌∷◌, ◌++◌}
use mathlib.Core.Logic.Dec
use Prim.Native.Nat.{ℕ}
use native.Mathlib.Decide.{dec_le, dec_lt, ℕ_discrete}
use lib.ListN.{length, replicate}
use Rattle.image.specs.Bytes.{be16_at, be32_at}
use Rattle.btree.specs.Decide.{says, map_dec, dec_imp, dec_mem, dec_all, first_not}
use Rattle.btree.specs.Walk.{fine, dec_if_some, dec_fresh, dec_key_right, wrong_key, dec_leads, dec_totals, test, ends, closing, walk}
use Rattle.btree.specs.Header.{view_of}
use Rattle.btree.specs.Halving.{halving, halved}
use Rattle.btree.specs.Search.{halved_in, lookup_of}
use Rattle.btree.specs.Image.{map_bytes}
use Rattle.btree.specs.Tests.{dec_descriptor, dec_no_tree, wrong_in, lowest_wrong, bit_for, dec_lengths, dec_header_node, chain_from, bit_test, map_tests, verdict}
use Rattle.btree.specs.Work as work
use Rattle.frame.specs.Form.{key_length, node_map_of, key_size}
use Rattle.frame.specs.Kinds.{kind_on, kind_of}
use Rattle.catalog_keys.specs.Weights.{weights, weight}
use Rattle.catalog_keys.specs.Key.{longest_name, asked, bytes_at, key_at, names, compared, digit, spelled, rank}
use Rattle.catalog_nodes.specs.Node.{max_records, key_length_of, size_of_type, after_key, type_at, record_end, dec_right, offset_word, dec_catalog_records}
use Rattle.catalog_entries.specs.Entry.{entry_at}
use Rattle.formats.specs.Format.{record_offset, dec_records, dec_node_on}
use Rattle.order.specs.Whole.{dec_whole_leaf}
use Rattle.scan.specs.Seen.{seen_in, seen_from}
use Rattle.reader.specs.Reader.{salvaged}
use Rattle.catalog.specs.Answers.{answered}
use Rattle.catalog.specs.Reader.{view, needed, checked, looked_up}
use Rattle.vectors.specs.Build.{All}
use Rattle.catalog_vectors.specs.Records.{bytes}
use Rattle.catalog_vectors.specs.Images.{cartridge, four_kinds, twin_pointer}
use Rattle.catalog_vectors.specs.Table.{look_numbers, Right, entries, nodes, keys, catalogs}

-- in an image that is sound a lookup is what the tree says, whose check is not computed again
looked : (img : List ℕ) → checked img (needed img) ≡ fine → (parent : ℕ) (name numbers : List ℕ)
    → look_numbers img (answered img (lookup_of (view img) fine (dec_le (length name) longest_name) (rank (asked parent name)))) ≡ numbers
    → look_numbers img (looked_up img (asked parent name) (needed img)) ≡ numbers
looked img sound parent name numbers =
    subst⁻¹ (λ t. look_numbers img (answered img (lookup_of (view img) t (dec_le (length name) longest_name) (rank (asked parent name)))) ≡ numbers) sound

sound : All (λ img. checked img (needed img) ≡ fine) (cartridge ∷ four_kinds ∷ twin_pointer ∷ [])
unfolding Dec.and Dec.not dec_le dec_lt ℕ_discrete be16_at be32_at says map_dec dec_imp dec_mem dec_all first_not dec_if_some dec_fresh dec_key_right wrong_key dec_leads dec_totals test ends closing walk view_of halving halved halved_in lookup_of map_bytes dec_descriptor dec_no_tree wrong_in lowest_wrong bit_for dec_lengths dec_header_node chain_from bit_test map_tests verdict work.checked key_length node_map_of key_size kind_on kind_of weights weight bytes_at key_at names compared digit spelled rank max_records key_length_of size_of_type after_key type_at record_end dec_right offset_word dec_catalog_records entry_at record_offset dec_records dec_node_on dec_whole_leaf seen_in seen_from salvaged
sound = (refl, (refl, (refl, tt)))

entries-right : All Right entries
unfolding Dec.and Dec.not dec_le dec_lt ℕ_discrete be16_at be32_at says map_dec dec_imp dec_mem dec_all first_not dec_if_some dec_fresh dec_key_right wrong_key dec_leads dec_totals test ends closing walk view_of halving halved halved_in lookup_of map_bytes dec_descriptor dec_no_tree wrong_in lowest_wrong bit_for dec_lengths dec_header_node chain_from bit_test map_tests verdict work.checked key_length node_map_of key_size kind_on kind_of weights weight bytes_at key_at names compared digit spelled rank max_records key_length_of size_of_type after_key type_at record_end dec_right offset_word dec_catalog_records entry_at record_offset dec_records dec_node_on dec_whole_leaf seen_in seen_from salvaged
entries-right =
    (refl, (refl, (sound.0, (looked cartridge sound.0 1 (bytes "Cartridge") _ refl, (looked cartridge sound.0 2 [] _ refl, (looked cartridge sound.0 2 (bytes "Heights") _ refl, (looked cartridge sound.0 2 (bytes "HEIGHTS") _ refl, (looked cartridge sound.0 2 (bytes "heights") _ refl, (looked cartridge sound.0 2 (bytes "Height") _ refl, (looked cartridge sound.0 2 (bytes "Heights2") _ refl, (looked cartridge sound.0 1 (bytes "Heights") _ refl, (looked cartridge sound.0 3 (bytes "Heights") _ refl, (looked cartridge sound.0 2 (replicate 31 0x6E) _ refl, (refl, (refl, (refl, (refl, (refl, (refl, (refl, (refl, (looked four_kinds sound.1.0 16 [] _ refl, (looked four_kinds sound.1.0 17 [] _ refl, (looked four_kinds sound.1.0 18 [] _ refl, (refl, tt)))))))))))))))))))))))))

nodes-right : All Right nodes
unfolding Dec.and Dec.not dec_le dec_lt ℕ_discrete be16_at be32_at says map_dec dec_imp dec_mem dec_all first_not dec_if_some dec_fresh dec_key_right wrong_key dec_leads dec_totals test ends closing walk view_of halving halved halved_in lookup_of map_bytes dec_descriptor dec_no_tree wrong_in lowest_wrong bit_for dec_lengths dec_header_node chain_from bit_test map_tests verdict work.checked key_length node_map_of key_size kind_on kind_of weights weight bytes_at key_at names compared digit spelled rank max_records key_length_of size_of_type after_key type_at record_end dec_right offset_word dec_catalog_records entry_at record_offset dec_records dec_node_on dec_whole_leaf seen_in seen_from salvaged
nodes-right =
    (refl, (refl, (refl, (refl, (refl, (refl, (refl, (refl, (refl, (refl, (refl, (refl, (refl, (refl, (refl, (refl, (refl, (refl, (refl, tt)))))))))))))))))))

keys-right : All Right keys
unfolding Dec.and Dec.not dec_le dec_lt ℕ_discrete be16_at be32_at says map_dec dec_imp dec_mem dec_all first_not dec_if_some dec_fresh dec_key_right wrong_key dec_leads dec_totals test ends closing walk view_of halving halved halved_in lookup_of map_bytes dec_descriptor dec_no_tree wrong_in lowest_wrong bit_for dec_lengths dec_header_node chain_from bit_test map_tests verdict work.checked key_length node_map_of key_size kind_on kind_of weights weight bytes_at key_at names compared digit spelled rank max_records key_length_of size_of_type after_key type_at record_end dec_right offset_word dec_catalog_records entry_at record_offset dec_records dec_node_on dec_whole_leaf seen_in seen_from salvaged
keys-right =
    (refl, (refl, (refl, (refl, (refl, (refl, (refl, (sound.1.1.0, (refl, (refl, (refl, (refl, (looked twin_pointer sound.1.1.0 2 (bytes "dogs") _ refl, (looked twin_pointer sound.1.1.0 2 (bytes "BEES") _ refl, (looked twin_pointer sound.1.1.0 2 (bytes "Bee") _ refl, (looked twin_pointer sound.1.1.0 2 (bytes "apple") _ refl, (refl, (refl, (refl, (refl, (refl, (refl, (refl, tt)))))))))))))))))))))))

both : {C : Type 0} (P : C → Type 0) (xs ys : List C) → All P xs → All P ys → All P (xs ++ ys)
both P [] ys a b = b
both P (x ∷ xs) ys (p, a) b = (p, both P xs ys a b)

pub catalogs-right : All Right catalogs
catalogs-right = both Right (entries ++ nodes) keys (both Right entries nodes entries-right nodes-right) keys-right
