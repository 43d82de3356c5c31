-- What the export writes of block mapping beside its numbers.
-- Assumes nothing.
use Rattle.std.specs.Prelude.{◌≡◌, List, ℕ, ◌<◌}
use Rattle.reader.specs.Reader.{empty_part}
use Rattle.coverings.specs.declared.answers.Covering.{Covering}
use Rattle.coverings.specs.declared.answers.Mapping.{Mapping}
use Rattle.coverings.specs.declared.answers.Mapping.TheVariants.{Mapped, Refused}
use Rattle.blocks.specs.Demands.{image_of}
use Rattle.replies.specs.Written.{data_bytes}

-- "the covering record's 12 bytes of pairs", and zeros for any answer but 0
abbrev pub covering_bytes : List ℕ → List ℕ → Mapping → List ℕ
covering_bytes cat ext (Mapped c v) = data_bytes (image_of cat ext c.source) (record { at = c.start; size = 12 })
covering_bytes cat ext (Refused source number place) = data_bytes cat empty_part

-- the byte where the part starts fits 32 bits, as in every image that is sound
abbrev pub Small : Mapping → Type 0
Small m = (c : Covering) (v : ℕ) → m ≡ Mapped c v → c.start < 33554432
