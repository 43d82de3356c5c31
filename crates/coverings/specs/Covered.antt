-- W-207: the record that covers a block of a file, and what is answered by it. No definition looks into a tree: both are asked by their own calls.
-- Assumes nothing.
use Rattle.std.specs.Prelude.{◌≡◌, List, ℕ, ◌+◌, ◌-◌, ◌≤◌, ◌<◌}
use Rattle.std.proofs.Math.Logic.Dec
use Rattle.std.proofs.Math.Decide.{ℕ_discrete, dec_lt, dec_le}
use Rattle.btree.specs.declared.Place.{Place}
use Rattle.btree.specs.declared.Verdict.{Verdict}
use Rattle.btree.specs.Places.{image_start}
use Rattle.btree.specs.Decide.{cond, if_zero, map_dec}
use Rattle.extent_keys.specs.Key.{asked}
use Rattle.extent_data.specs.declared.ExtentData.{ExtentData}
use Rattle.catalog_entries.specs.declared.Entry.{Entry}
use Rattle.catalog_entries.specs.declared.Entry.TheVariants as kind
use Rattle.catalog_entries.specs.declared.File.{File}
use Rattle.catalog.specs.Reader as catalog
use Rattle.extents.specs.declared.floors.ExtentRecord.{ExtentRecord}
use Rattle.extents.specs.declared.floors.Floor.{Floor}
use Rattle.extents.specs.declared.floors.Floor.TheVariants as floor
use Rattle.extents.specs.Reader as extents
use Rattle.extents.specs.Floor.{floored}
use Rattle.coverings.specs.declared.answers.Source.{Source}
use Rattle.coverings.specs.declared.answers.Source.TheVariants.{Catalog, Extents}
use Rattle.coverings.specs.declared.answers.Covering.{Covering}
use Rattle.coverings.specs.declared.answers.Mapping.{Mapping}
use Rattle.coverings.specs.declared.answers.Mapping.TheVariants.{Refused}
use Rattle.extent_data.specs.Pairs.{block_count, counted_off}
use Rattle.coverings.specs.Answers.{mapped_to}

-- "that fork's three first counts in the file record": the pairs of the data fork, 00, or of the resource fork, FF
unfoldable pub first_extents : File → ℕ → ExtentData
first_extents f fork = cond (ℕ_discrete fork 0) f.data_fork.extents f.resource_fork.extents

-- "data fork 00: at 74 of the record's data, resource FF: at 86"
unfoldable pub first_start : ℕ → ℕ
first_start fork = cond (ℕ_discrete fork 0) 74 86

-- "if it has that file and fork and its three counts, added up from its start block, go past the block"
pub record Covers (e : ExtentRecord) (file fork block : ℕ) : Type 0 where
  pub same_file : e.file ≡ file
  pub same_fork : e.fork ≡ fork
  pub from : e.start ≤ block
  pub past : block < e.start + block_count e.extents

unfoldable pub dec_covers : (e : ExtentRecord) (file fork block : ℕ) → Dec (Covers e file fork block)
dec_covers e file fork block =
    map_dec (λ (((a, b), c), d). record { same_file = a; same_fork = b; from = c; past = d }) (λ q. (((q.same_file, q.same_fork), q.from), q.past))
    (Dec.and (Dec.and (Dec.and (ℕ_discrete e.file file) (ℕ_discrete e.fork fork)) (dec_le e.start block)) (dec_lt block (e.start + block_count e.extents)))

-- a covering record: where it starts, and where its 12 bytes do; in the catalog those of the fork
abbrev pub first_covering : List ℕ → ℕ → Place → Covering
first_covering cat fork p = record { source = Catalog; place = p; start = (catalog.data_part cat p).at + first_start fork }

abbrev pub later_covering : List ℕ → Place → Covering
later_covering ext p = record { source = Extents; place = p; start = (extents.data_part ext p).at }

-- a check's number and place, of its own image
abbrev pub refused_by : Source → Verdict → Mapping
refused_by source t = Refused source t.number t.place

-- "a record that is no file 24"
abbrev pub no_file : Mapping
no_file = Refused Catalog 24 image_start

-- "Otherwise, and only then, 17."
abbrev pub uncovered : Mapping
uncovered = Refused Extents 17 image_start

module _ (ext : List ℕ) (lent : ℕ) where
  -- "12, 24, 17 and 18 come after both": what is answered once the extents image has been checked too, where so many bytes are lent
  unfoldable pub after_extents : Mapping → Mapping
  after_extents m = if_zero (extents.checked ext lent).number m (refused_by Extents (extents.checked ext lent))

  -- "Otherwise the extents record with the highest key not above (file, fork, block) covers it, if .."
  abbrev pub by_floor : ℕ → ℕ → ℕ → Floor → Mapping
  by_floor file fork block (floor.At p e) = cond (dec_covers e file fork block) (mapped_to (later_covering ext p) (counted_off e.extents (block - e.start))) uncovered
  by_floor file fork block floor.Nowhere = uncovered
  by_floor file fork block (floor.Refused number place) = Refused Extents number place

  unfoldable pub in_extents : ℕ → ℕ → ℕ → Mapping
  in_extents file fork block = by_floor file fork block (floored ext (asked file fork block) lent)

  module _ (cat : List ℕ) (fork block : ℕ) where
    -- "A block below the sum of that fork's three first counts in the file record is covered there."
    unfoldable pub in_file : Place → File → Mapping
    in_file p f =
        cond (dec_lt block (block_count (first_extents f fork)))
        (after_extents (mapped_to (first_covering cat fork p) (counted_off (first_extents f fork) block)))
        (in_extents f.file_id fork block)

    abbrev pub in_entry : Place → Entry → Mapping
    in_entry p (kind.File f) = in_file p f
    in_entry p (kind.Directory d) = after_extents no_file
    in_entry p (kind.DirectoryThread t) = after_extents no_file
    in_entry p (kind.FileThread t) = after_extents no_file
