-- What block mapping answers of a block that is covered, and the numbers that stand for each answer.
-- Assumes nothing.
use Rattle.std.specs.Prelude.{List, [], ◌∷◌, ℕ}
use Rattle.std.proofs.Math.Decide.{dec_le}
use Rattle.btree.specs.Places.{image_start}
use Rattle.btree.specs.Decide.{cond}
use Rattle.coverings.specs.declared.answers.Source.{Source}
use Rattle.coverings.specs.declared.answers.Source.TheVariants.{Catalog, Extents}
use Rattle.coverings.specs.declared.answers.Covering.{Covering}
use Rattle.coverings.specs.declared.answers.Mapping.{Mapping}
use Rattle.coverings.specs.declared.answers.Mapping.TheVariants.{Mapped, Refused}

-- the most that a block of the volume has as its number
abbrev pub last_block : ℕ
last_block = 65535

-- "A volume block above 65,535 is 18", of the covering record's image
unfoldable pub mapped_to : Covering → ℕ → Mapping
mapped_to c v = cond (dec_le v last_block) (Mapped c v) (Refused c.source 18 image_start)

-- "image (0 catalog, 1 extents)"
abbrev pub source_number : Source → ℕ
source_number Catalog = 0
source_number Extents = 1

-- "number, image .., node, offset, volume block, byte where the part starts in that image, its length (12 or 0)"
abbrev pub block_numbers : Mapping → List ℕ
block_numbers (Mapped c v) = 0 ∷ source_number c.source ∷ c.place.node ∷ c.place.offset ∷ v ∷ c.start ∷ 12 ∷ []
block_numbers (Refused source number place) = number ∷ source_number source ∷ place.node ∷ place.offset ∷ 0 ∷ 0 ∷ 0 ∷ []
