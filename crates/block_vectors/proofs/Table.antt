-- The blocks and keys asked for have the answers that are listed with them: each is computed.
-- Assumes nothing.
use mathlib.Core.Path.{◌≡◌, refl, subst⁻¹}
use mathlib.Core.List.{List, []}
use mathlib.Core.Logic.Dec
use Prim.Native.Nat.{ℕ}
use native.Mathlib.Decide.{dec_le, dec_lt, ℕ_discrete}
use lib.ListN.{replicate, set}
use Rattle.image.specs.Bytes.{be16_at, be32_at}
use Rattle.btree.specs.Places.{byte_of, image_start}
use Rattle.btree.specs.Decide.{cond, says, map_dec, dec_imp, dec_or, dec_mem, dec_all, first_not}
use Rattle.btree.specs.Walk.{dec_if_some, dec_fresh, dec_key_right, wrong_key, dec_leads, dec_totals, test, ends, closing, walk}
use Rattle.btree.specs.Header.{view_of}
use Rattle.btree.specs.Search.{lookup_of}
use Rattle.btree.specs.Image.{map_bytes}
use Rattle.btree.specs.Tests.{dec_descriptor, dec_no_tree, wrong_in, lowest_wrong, bit_for, dec_lengths, dec_header_node, chain_from, bit_test, map_tests, verdict}
use Rattle.btree.specs.Work as work
use Rattle.frame.specs.Form.{key_length, node_map_of, key_size}
use Rattle.frame.specs.Kinds.{kind_on, kind_of}
use Rattle.extent_keys.specs.Key as extent_key
use Rattle.extent_nodes.specs.Records.{data_size, record_size, length_at, dec_key_law, dec_extent_records}
use Rattle.catalog_keys.specs.Weights.{weights, weight}
use Rattle.catalog_keys.specs.Key as catalog_key
use Rattle.catalog_nodes.specs.Node.{max_records, key_length_of, size_of_type, after_key, type_at, record_end, dec_right, offset_word, dec_catalog_records}
use Rattle.catalog_entries.specs.Entry.{entry_at}
use Rattle.formats.specs.Format.{record_offset, dec_records, dec_node_on}
use Rattle.catalog.specs.declared.answers.Answer.{Answer}
use Rattle.catalog.specs.declared.answers.Answer.TheVariants.{Found}
use Rattle.catalog.specs.Answers.{entry_of}
use Rattle.catalog.specs.Reader.{looked_up}
use Rattle.extents.specs.Floor.{record_of, floored}
use Rattle.coverings.specs.declared.answers.Source.TheVariants.{Catalog}
use Rattle.coverings.specs.declared.answers.Mapping.TheVariants.{Refused}
use Rattle.extent_data.specs.Pairs.{counted_off}
use Rattle.coverings.specs.Answers.{mapped_to, block_numbers}
use Rattle.coverings.specs.Covered.{first_extents, first_start, dec_covers, after_extents, in_extents, in_file}
use Rattle.blocks.specs.Blocks.{dec_asked, by_answer, block_of}
use Rattle.vectors.specs.Build.{All, e1, l1, two_leaves}
use Rattle.catalog_vectors.specs.Images.{cartridge}
use Rattle.block_vectors.specs.Images.{two_forks, other_file, later_start, two_records}
use Rattle.block_vectors.specs.Table.{heights, Right, cases}

-- the file's record, by a lookup that is computed once
found : (looked_up two_forks (catalog_key.asked 2 heights) 1).answer ≡ Found (byte_of 1 154) (entry_of two_forks (byte_of 1 154))
unfolding Dec.and Dec.not dec_le dec_lt ℕ_discrete be16_at be32_at says map_dec dec_imp dec_or dec_mem dec_all first_not dec_if_some dec_fresh dec_key_right wrong_key dec_leads dec_totals test ends closing walk view_of lookup_of map_bytes dec_descriptor dec_no_tree wrong_in lowest_wrong bit_for dec_lengths dec_header_node chain_from bit_test map_tests verdict work.checked key_length node_map_of key_size kind_on kind_of extent_key.dec_lawful extent_key.key_at extent_key.rank data_size record_size length_at dec_key_law dec_extent_records weights weight catalog_key.bytes_at catalog_key.key_at catalog_key.digit catalog_key.spelled catalog_key.rank max_records key_length_of size_of_type after_key type_at record_end dec_right offset_word dec_catalog_records entry_at record_offset dec_records dec_node_on record_of floored counted_off mapped_to first_extents first_start dec_covers after_extents in_extents in_file dec_asked block_of
found = refl

module _ (ext : List ℕ) (lent fork n : ℕ) where
  -- what is answered of a block, where this is what the lookup answers
  abbrev mapped : Answer → List ℕ
  mapped a = block_numbers (cond (dec_asked (catalog_key.asked 2 heights) fork) (by_answer two_forks ext lent fork n a) (Refused Catalog 11 image_start))

  looked : (numbers : List ℕ) → mapped (Found (byte_of 1 154) (entry_of two_forks (byte_of 1 154))) ≡ numbers
      → block_numbers (block_of two_forks ext 1 lent (catalog_key.asked 2 heights) fork n) ≡ numbers
  unfolding block_of
  looked numbers = subst⁻¹ (λ a. mapped a ≡ numbers) found

pub cases-right : All Right cases
unfolding Dec.and Dec.not dec_le dec_lt ℕ_discrete be16_at be32_at says map_dec dec_imp dec_or dec_mem dec_all first_not dec_if_some dec_fresh dec_key_right wrong_key dec_leads dec_totals test ends closing walk view_of lookup_of map_bytes dec_descriptor dec_no_tree wrong_in lowest_wrong bit_for dec_lengths dec_header_node chain_from bit_test map_tests verdict work.checked key_length node_map_of key_size kind_on kind_of extent_key.dec_lawful extent_key.key_at extent_key.rank data_size record_size length_at dec_key_law dec_extent_records weights weight catalog_key.bytes_at catalog_key.key_at catalog_key.digit catalog_key.spelled catalog_key.rank max_records key_length_of size_of_type after_key type_at record_end dec_right offset_word dec_catalog_records entry_at record_offset dec_records dec_node_on record_of floored counted_off mapped_to first_extents first_start dec_covers after_extents in_extents in_file dec_asked block_of
cases-right =
    (looked e1 1 0x00 0 _ refl, (looked e1 1 0x00 1 _ refl, (looked e1 1 0x00 2 _ refl, (looked e1 1 0x00 3 _ refl, (looked e1 1 0x00 4 _ refl, (looked e1 1 0xFF 2 _ refl, (looked e1 1 0xFF 3 _ refl, (looked e1 1 0xFF 4 _ refl, (looked e1 1 0xFF 5 _ refl, (looked two_records 1 0x00 5 _ refl, (looked two_records 1 0x00 7 _ refl, (looked two_records 1 0x00 12 _ refl, (looked two_records 1 0x00 13 _ refl, (looked (two_leaves 2 1 1) 1 0x00 7 _ refl, (looked l1 1 0x00 8 _ refl, (looked l1 1 0xFF 6 _ refl, (looked other_file 1 0x00 5 _ refl, (looked later_start 1 0x00 5 _ refl, (looked e1 1 0x00 5 _ refl, (refl, (refl, (refl, (refl, (refl, (refl, (refl, (refl, (looked (set l1 519 1) 1 0x00 0 _ refl, (refl, (refl, (looked (replicate 512 0) 1 0x00 5 _ refl, (looked (replicate 512 0) 1 0xFF 5 _ refl, (refl, (looked cartridge 1 0x00 0 _ refl, (refl, (looked l1 0 0x00 0 _ refl, (looked l1 0 0x00 5 _ refl, (refl, (looked [] 0 0x00 0 _ refl, (refl, (refl, (refl, (refl, (refl, (refl, tt)))))))))))))))))))))))))))))))))))))))))))))
