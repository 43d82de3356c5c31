-- What the exports write beside the numbers of an answer: a record's data.
-- Assumes nothing.
use Rattle.std.specs.Prelude.{◌≡◌, List, ℕ, take, drop}
use Rattle.btree.specs.declared.Answer.{Answer}
use Rattle.btree.specs.declared.Answer.TheVariants.{Found}
use Rattle.btree.specs.declared.Place.{Place}
use Rattle.btree.specs.declared.Salvage.{Salvage}
use Rattle.btree.specs.declared.Salvage.TheVariants.{Seen}
use Rattle.btree.specs.Lists.{padded}
use Rattle.frame.specs.declared.form.Form.{Form}
use Rattle.frame.specs.Form.{Fair}
use Rattle.reader.specs.Reader.{Part}

-- the bytes of a part, with zeros up to so many: all zeros for the empty part
abbrev pub part_bytes : ℕ → List ℕ → Part → List ℕ
part_bytes n img p = padded n (take p.size (drop p.at img))

-- for an HFS image twelve
abbrev pub data_bytes : List ℕ → Part → List ℕ
data_bytes img p = part_bytes 12 img p

-- for an edition and a node size 64: "unused data bytes 0"
abbrev pub wide_bytes : List ℕ → Part → List ℕ
wide_bytes img p = part_bytes 64 img p

-- for a catalog 102
abbrev pub all_bytes : List ℕ → Part → List ℕ
all_bytes img p = part_bytes 102 img p

-- nothing is found or seen but in an image whose form is fair
abbrev pub FoundFair : Form → Answer → Type 0
FoundFair form answer = (p : Place) → answer ≡ Found p → Fair form

abbrev pub SeenFair : Form → Salvage → Type 0
SeenFair form seen = (p : Place) → seen ≡ Seen p → Fair form
