-- The format of a tree file, of either tree: its keys, its nodes and what they say.
-- Assumes nothing.
use Rattle.std.specs.Prelude.{◌≡◌, List, ℕ, ◌+◌, ◌*◌, ◌≤◌, ◌<◌}
use Rattle.std.proofs.Math.Logic.Dec
use Rattle.std.proofs.Math.Decide.{ℕ_discrete, dec_le, dec_lt}
use Rattle.image.specs.Bytes.{be16_at}
use Rattle.btree.specs.Decide.{map_dec, dec_imp}
use Rattle.btree.specs.Tree.{View}
use Rattle.btree.specs.Header.{Format, depth_of, count_of, view_of}
use Rattle.frame.specs.declared.form.Form.{Form}
use Rattle.frame.specs.Form.{by_tree, key_length, key_size, layout_of}
use Rattle.frame.specs.Kinds.{kind_on, kind_of, level_of}
use Rattle.extent_keys.specs.Key as extent
use Rattle.extent_nodes.specs.Records.{data_size, start_in, ExtentRecords, dec_extent_records}
use Rattle.catalog_keys.specs.Key as catalog
use Rattle.catalog_nodes.specs.Node.{size_of_type, type_at, offset_word, CatalogRecords, dec_catalog_records}
use Rattle.catalog_nodes.specs.Node as node

module _ (form : Form) where
  -- the key that stands at a byte of the image, as a number in whose order keys are
  abbrev pub rank_at : List ℕ → ℕ → ℕ
  rank_at img at = by_tree form (extent.rank (extent.key_at form img at)) (catalog.rank (catalog.key_at img at))

  module _ (img : List ℕ) where
    -- "Records lie side by side from 0E"; W-204: "the offset words say where each starts"
    unfoldable pub record_offset : ℕ → ℕ → ℕ
    record_offset n i = by_tree form (start_in form (kind_of form img n) i) (offset_word form img n i)

    -- where record i of the node n starts in the image
    abbrev pub record_at : ℕ → ℕ → ℕ
    record_at n i = n * form.size + record_offset n i

    -- the records of a node of this kind, whatever its level and its links
    pub record Records (kind n : ℕ) : Type 0 where
      pub is_kind : kind_of form img n ≡ kind
      -- "reserved (2, zero)"
      pub reserved : be16_at img (n * form.size + 12) ≡ 0
      pub some : 1 ≤ count_of (layout_of form) img n
      -- as its tree has them
      pub extents : form.tree ≡ 0 → ExtentRecords form img kind n
      pub catalog : 0 < form.tree → CatalogRecords form img kind n

    -- a node d levels below the root of a tree of this depth
    pub record NodeOn (depth n d : ℕ) : Type 0 where
      -- W-201: "the root's level is the depth, each child's is one less than its parent's"
      pub level : level_of form img n + d ≡ depth
      pub records : Records (kind_on (level_of form img n)) n

    unfoldable pub dec_records : (kind n : ℕ) → Dec (Records kind n)
    dec_records kind n =
        map_dec
        (λ ((((a, b), c), d), e). record { is_kind = a; reserved = b; some = c; extents = d; catalog = e })
        (λ r. ((((r.is_kind, r.reserved), r.some), r.extents), r.catalog))
        (Dec.and (Dec.and (Dec.and (Dec.and
        (ℕ_discrete (kind_of form img n) kind)
        (ℕ_discrete (be16_at img (n * form.size + 12)) 0))
        (dec_le 1 (count_of (layout_of form) img n)))
        (dec_imp (ℕ_discrete form.tree 0) (dec_extent_records form img kind n)))
        (dec_imp (dec_lt 0 form.tree) (dec_catalog_records form img kind n)))

    unfoldable pub dec_node_on : (depth n d : ℕ) → Dec (NodeOn depth n d)
    dec_node_on depth n d =
        map_dec (λ (a, b). record { level = a; records = b }) (λ r. (r.level, r.records))
        (Dec.and (ℕ_discrete (level_of form img n + d) depth) (dec_records (kind_on (level_of form img n)) n))

    -- where the data starts of a leaf record that starts at this byte of the image, and how many bytes it has
    abbrev pub data_at : ℕ → ℕ
    data_at at = by_tree form (at + key_size form) (node.data_at img at)

    abbrev pub data_size_at : ℕ → ℕ
    data_size_at at = by_tree form (data_size form) (size_of_type (type_at img at))

  abbrev pub format_of : Format
  format_of =
      record {
        key_length = key_length form;
        rank_at = rank_at;
        record_offset = record_offset;
        -- "Index record: key and a child's node number (4)"
        child_offset = λ img n i. record_offset img n i + key_size form;
        WellFormed = λ img n d. NodeOn img (depth_of img) n d;
        dec_well_formed = λ img n d. dec_node_on img (depth_of img) n d;
      }

  abbrev pub view : List ℕ → View
  view img = view_of (layout_of form) format_of img
