-- W-207 in the words of the leaf records: what block mapping says of two sound images, and of any other.
-- Assumes nothing.
use Rattle.std.specs.Prelude.{◌≡◌, ◌≢◌, ◌⊎◌, ◌↔◌, List, ℕ, ◌+◌, ◌-◌, ◌≤◌, ◌<◌, length}
use Rattle.std.specs.Borrow.{Bor}
use Rattle.btree.specs.Places.{node_place, image_start}
use Rattle.btree.specs.Lists.{◌∈◌, last_or}
use Rattle.btree.specs.Tree.{Rec}
use Rattle.btree.specs.Search.{place_of}
use Rattle.extent_keys.specs.Key.{asked}
use Rattle.catalog_keys.specs.Key.{Key}
use Rattle.catalog_entries.specs.declared.Entry.TheVariants as kind
use Rattle.catalog_entries.specs.declared.File.{File}
use Rattle.reader.specs.Reader.{empty_part}
use Rattle.reader.specs.Demands as demands
use Rattle.catalog.specs.Answers.{entry_of}
use Rattle.catalog.specs.Reader as catalog
use Rattle.catalog.specs.Demands.{HasKey}
use Rattle.extents.specs.Reader as extents
use Rattle.extents.specs.Floor.{record_of, IsFloor}
use Rattle.coverings.specs.declared.answers.Source.{Source}
use Rattle.coverings.specs.declared.answers.Source.TheVariants.{Catalog, Extents}
use Rattle.coverings.specs.declared.answers.Covering.{Covering}
use Rattle.coverings.specs.declared.answers.Mapping.{Mapping}
use Rattle.coverings.specs.declared.answers.Mapping.TheVariants.{Mapped, Refused}
use Rattle.extent_data.specs.Pairs.{Gives}
use Rattle.coverings.specs.Answers.{last_block}
use Rattle.coverings.specs.Covered.{first_extents, refused_by, no_file, uncovered, first_covering, later_covering}
use Rattle.blocks.specs.Blocks.{Asked}

-- the slice r is "the covering extent record's 12 bytes, handed back as a part of whichever image holds it", and lies where it does
abbrev pub PartIn : Bor (List ℕ) → Bor (List ℕ) → Bor (List ℕ) → Source → ℕ → Type 0
PartIn cat ext r Catalog start = demands.PartOf cat r (record { at = start; size = 12 })
PartIn cat ext r Extents start = demands.PartOf ext r (record { at = start; size = 12 })

-- "Any answer but 0 has the empty part at the catalog's start."
abbrev pub PartOf : Bor (List ℕ) → Bor (List ℕ) → Bor (List ℕ) → Mapping → Type 0
PartOf cat ext r (Mapped c v) = PartIn cat ext r c.source c.start
PartOf cat ext r (Refused source number place) = demands.PartOf cat r empty_part

-- the image that an answer concerns
abbrev pub image_of : List ℕ → List ℕ → Source → List ℕ
image_of cat ext Catalog = cat
image_of cat ext Extents = ext

module _ (cat ext : List ℕ) (k : Key) (fork block : ℕ) where
  -- the catalog's leaf record x has the key, and is the file f
  pub record IsFile (x : Rec) (f : File) : Type 0 where
    pub listed : x ∈ catalog.leaf_list cat
    pub has_key : HasKey cat k x
    pub is_entry : entry_of cat (place_of x) ≡ kind.File f

  -- the file record's own extents of the fork give v
  abbrev pub First : File → ℕ → Type 0
  First f v = Gives (first_extents f fork) block v

  -- y, of all leaf records of the extents image the one with the highest key not above (file, fork, block), has that file and fork, and gives v for
  -- the block, counted from its start block
  pub record Later (f : File) (y : Rec) (v : ℕ) : Type 0 where
    pub is_floor : IsFloor ext (asked f.file_id fork block) y
    pub same_file : (record_of ext (place_of y)).file ≡ f.file_id
    pub same_fork : (record_of ext (place_of y)).fork ≡ fork
    pub from : (record_of ext (place_of y)).start ≤ block
    pub gives : Gives (record_of ext (place_of y)).extents (block - (record_of ext (place_of y)).start) v

  -- the record that covers the block and gives v: first the file's own, x
  abbrev pub ByFirst : Rec → File → Covering → ℕ → Type 0
  ByFirst x f c v = First f v × (first_covering cat fork (place_of x) ≡ c)

  -- and then one of the extents image, where the file's own does not reach the block
  abbrev pub ByLater : File → Covering → ℕ → Type 0
  ByLater f c v = ((w : ℕ) → First f w → ⊥) × ((y : Rec) × Later f y v × (later_covering ext (place_of y) ≡ c))

  -- "the fork's extents, first the file record's and then the extents records', give v for the block", by the covering record c
  pub record GivenBy (x : Rec) (f : File) (c : Covering) (v : ℕ) : Type 0 where
    pub is_file : IsFile x f
    pub gives : ByFirst x f c v ⊎ ByLater f c v

  abbrev pub Given : Covering → ℕ → Type 0
  Given c v = (x : Rec) × (f : File) × GivenBy x f c v

  -- of two sound images
  pub record SoundBlock (r : Mapping) : Type 0 where
    -- 0 with the volume block v exactly when the fork's extents give v for the block, and v is one that a volume can have
    pub mapped : (c : Covering) (v : ℕ) → (r ≡ Mapped c v) ↔ (Given c v × (v ≤ last_block))
    -- "A volume block above 65,535 is 18", of the covering image
    pub above : (source : Source) → (r ≡ Refused source 18 image_start) ↔ ((c : Covering) × (v : ℕ) × (Given c v) × (last_block < v) × (c.source ≡ source))
    -- "Otherwise, and only then, 17."
    pub is_uncovered : (r ≡ uncovered) ↔ (((x : Rec) × (f : File) × IsFile x f) × ((c : Covering) (v : ℕ) → Given c v → ⊥))
    -- "a record that is no file 24"
    pub is_no_file : (r ≡ no_file) ↔ ((x : Rec) × (x ∈ catalog.leaf_list cat) × (HasKey cat k x) × ((f : File) → entry_of cat (place_of x) ≢ kind.File f))
    -- "an absent key is 12", with the place of the catalog's lookup
    pub absent : (r ≡ Refused Catalog 12 (node_place (last_or 0 (catalog.search_path cat k)))) ↔ ((x : Rec) → x ∈ catalog.leaf_list cat → HasKey cat k x → ⊥)

  -- what is said of any two images where so many bytes are lent for each
  pub record BlockSays (cat_lent ext_lent : ℕ) (r : Mapping) : Type 0 where
    -- "11 (fork byte, or a name above 31 bytes)"
    pub of_unasked : (Asked k fork → ⊥) → r ≡ Refused Catalog 11 image_start
    -- "After 11 the catalog is checked, then the extents image", each refusal of its own image
    pub of_catalog : Asked k fork → (catalog.checked cat cat_lent).number ≢ 0 → r ≡ refused_by Catalog (catalog.checked cat cat_lent)
    pub of_extents : Asked k fork → (catalog.checked cat cat_lent).number ≡ 0 → (extents.checked ext ext_lent).number ≢ 0 → r ≡ refused_by Extents (extents.checked ext ext_lent)
    pub of_sound : Asked k fork → catalog.Sound cat → catalog.needed cat ≤ cat_lent → extents.Sound ext → extents.needed ext ≤ ext_lent → SoundBlock r
    -- the image that holds the covering record has its 12 bytes, and is not longer than an image may be
    pub inside : (c : Covering) (v : ℕ) → r ≡ Mapped c v → c.start + 12 ≤ length (image_of cat ext c.source)
    pub small : (c : Covering) (v : ℕ) → r ≡ Mapped c v → c.start < 33554432
