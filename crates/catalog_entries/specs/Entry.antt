-- The data of a leaf record, by its type.
-- Assumes nothing.
use Rattle.std.specs.Prelude.{List, ℕ, ◌+◌, get_or}
use Rattle.std.proofs.Math.Decide.{ℕ_discrete}
use Rattle.image.specs.Bytes.{be16_at, be32_at}
use Rattle.btree.specs.Decide.{cond}
use Rattle.catalog_nodes.specs.Node.{data_at, type_at}
use Rattle.extent_data.specs.Data.{extent_data_at}
use Rattle.catalog_entries.specs.declared.Directory.{Directory}
use Rattle.catalog_entries.specs.declared.Fork.{Fork}
use Rattle.catalog_entries.specs.declared.File.{File}
use Rattle.catalog_entries.specs.declared.Thread.{Thread}
use Rattle.catalog_entries.specs.declared.Entry.{Entry}
use Rattle.catalog_entries.specs.declared.Entry.TheVariants as kind

module _ (img : List ℕ) where
  -- "1 directory": "flags 2 (2), valence 4 (2), directory ID 6 (4), created 10 (4), modified 14 (4), backed up 18 (4)"
  abbrev pub directory_at : ℕ → Directory
  directory_at d =
      record {
        flags = be16_at img (d + 2);
        valence = be16_at img (d + 4);
        directory_id = be32_at img (d + 6);
        created = be32_at img (d + 10);
        modified = be32_at img (d + 14);
        backed_up = be32_at img (d + 18);
      }

  -- of a fork first block (2), logical length (4) and physical length (4) at one byte, "three pairs of first block and block count" at another
  abbrev pub fork_at : ℕ → ℕ → Fork
  fork_at d e =
      record {
        first_block = be16_at img d;
        logical_length = be32_at img (d + 2);
        physical_length = be32_at img (d + 6);
        extents = extent_data_at img e;
      }

  -- "2 file": "flags 2 (1), file type 3 (1), Finder info 4 (16), file ID 20 (4), data fork: first block 24 (2) ..; resource fork: first block 34 (2) ..;
  -- created 44 (4), modified 48 (4), backed up 52 (4), more Finder info 56 (16), clump size 72 (2), data fork's first three extents 74 (12), resource fork's 86 (12)"
  abbrev pub file_at : ℕ → File
  file_at d =
      record {
        flags = get_or img (d + 2) 0;
        file_type = get_or img (d + 3) 0;
        file_id = be32_at img (d + 20);
        data_fork = fork_at (d + 24) (d + 74);
        resource_fork = fork_at (d + 34) (d + 86);
        created = be32_at img (d + 44);
        modified = be32_at img (d + 48);
        backed_up = be32_at img (d + 52);
        clump_size = be16_at img (d + 72);
      }

  -- "3, 4 threads": "reserved 2 (8), parent ID 10 (4), name length 14 (1)"
  abbrev pub thread_at : ℕ → Thread
  thread_at d = record { parent_id = be32_at img (d + 10); name_length = get_or img (d + 14) 0 }

  -- "four kinds of leaf record (types 1 to 4 ..), told apart in the answer with their fields"; test 5 leaves no type but 4 after the first three
  unfoldable pub entry_at : ℕ → Entry
  entry_at at =
      cond (ℕ_discrete (type_at img at) 1) (kind.Directory (directory_at (data_at img at)))
      (cond (ℕ_discrete (type_at img at) 2) (kind.File (file_at (data_at img at)))
      (cond (ℕ_discrete (type_at img at) 3) (kind.DirectoryThread (thread_at (data_at img at)))
      (kind.FileThread (thread_at (data_at img at)))))
