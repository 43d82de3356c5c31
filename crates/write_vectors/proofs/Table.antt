-- The rows laid down have the answers that are listed with them, and leave the targets: each is computed.
-- Assumes nothing.
use mathlib.Core.Path.{refl}
use mathlib.Core.Logic.Dec
use native.Mathlib.Decide.{dec_le, dec_lt, ℕ_discrete}
use Rattle.image.specs.Bytes.{be16_at, be32_at}
use Rattle.btree.specs.Decide.{says, map_dec, dec_or, dec_all}
use Rattle.btree.specs.Tests.{dec_lengths}
use Rattle.extent_keys.specs.Key.{dec_lawful, key_at, rank}
use Rattle.frame.specs.Form.{key_length}
use Rattle.extent_nodes.specs.Records.{length_at, dec_key_law}
use Rattle.shape.specs.Shape.{fanout, first_in, groups, record_under, entries_at, held, start, levels_above, levels}
use Rattle.laid.specs.Laid.{described, map_byte, map_part, maps_for, map_node, offsets, size_at, kind_at, back_to, root_for, first_for, last_for, header_start, header, entry, node, image_nodes, laid, wanted}
use Rattle.leaf_rows.specs.Row.{dec_keys_right, dec_row_law}
use Rattle.writing.specs.Written.{write_answer, written}
use Rattle.vectors.specs.Build.{All}
use Rattle.write_vectors.specs.Table.{Right, writes}

pub writes-right : All Right writes
unfolding Dec.and dec_le dec_lt ℕ_discrete be16_at be32_at says map_dec dec_or dec_all dec_lengths dec_lawful key_at rank key_length length_at dec_key_law fanout first_in groups record_under entries_at held start levels_above levels described map_byte map_part maps_for map_node offsets size_at kind_at back_to root_for first_for last_for header_start header entry node image_nodes laid wanted dec_keys_right dec_row_law write_answer written
writes-right = ((refl, refl), ((refl, refl), ((refl, refl), ((refl, refl), ((refl, refl), ((refl, refl), ((refl, refl), ((refl, refl), ((refl, refl), ((refl, refl), ((refl, refl), ((refl, refl), ((refl, refl), ((refl, refl), ((refl, refl), ((refl, refl), tt))))))))))))))))
