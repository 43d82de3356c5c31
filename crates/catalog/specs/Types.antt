-- W-204: "four kinds of leaf record (types 1 to 4, data of 70, 102, 46 and 46 bytes), told apart in the answer with their fields".
-- Assumes nothing.
use Rattle.std.specs.Prelude.{◌≡◌, ◌⊎◌, List, ℕ}
use Rattle.btree.specs.declared.Place.{Place}
use Rattle.btree.specs.Places.{image_offset}
use Rattle.frame.specs.Form.{catalog, layout_of}
use Rattle.catalog_nodes.specs.Node.{type_at}
use Rattle.catalog_entries.specs.declared.Entry.{Entry}
use Rattle.catalog_entries.specs.declared.Entry.TheVariants as kind
use Rattle.catalog_entries.specs.Entry.{directory_at, file_at, thread_at}
use Rattle.catalog.specs.Reader.{data_part}

module _ (img : List ℕ) (p : Place) (e : Entry) where
  -- the entry e of the leaf record at a place, of one of the kinds: its type, its fields and how many bytes its data has
  pub record OfType (type size : ℕ) (fields : ℕ → Entry) : Type 0 where
    pub is_type : type_at img (image_offset (layout_of catalog) p) ≡ type
    pub is_entry : e ≡ fields (data_part img p).at
    pub is_size : (data_part img p).size ≡ size

  abbrev pub FourTypes : Type 0
  FourTypes =
      OfType 1 70 (λ d. kind.Directory (directory_at img d))
      ⊎ (OfType 2 102 (λ d. kind.File (file_at img d))
      ⊎ (OfType 3 46 (λ d. kind.DirectoryThread (thread_at img d))
      ⊎ OfType 4 46 (λ d. kind.FileThread (thread_at img d))))
