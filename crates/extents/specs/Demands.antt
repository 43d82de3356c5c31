-- Demand 3 of an HFS volume's extents overflow file: what is said of every form, and how many keys a lookup compares at most.
-- Assumes nothing.
use Rattle.std.specs.Prelude.{◌≡◌, List, ℕ, ◌*◌, ◌≤◌, length}
use Rattle.std.specs.Borrow.{Bor}
use Rattle.btree.specs.declared.Lookup.{Lookup}
use Rattle.btree.specs.declared.Salvage.{Salvage}
use Rattle.btree.specs.Places.{image_start}
use Rattle.btree.specs.Lists.{◌∈◌}
use Rattle.btree.specs.Tree.{Rec}
use Rattle.btree.specs.Numbers.{lookup_reply}
use Rattle.btree.specs.Search.{refused, halved_in}
use Rattle.frame.specs.Form.{hfs}
use Rattle.extent_keys.specs.declared.key.Key.{Key}
use Rattle.extent_keys.specs.Key.{Lawful, rank}
use Rattle.reader.specs.Reader.{Part}
use Rattle.reader.specs.Demands as demands
use Rattle.reader.specs.Salvage as salvage
use Rattle.editions.specs.Asked.{of_key}
use Rattle.extents.specs.Reader.{view, Sound, verdict, needed, TooFew, search_path}

-- "A record has the asked key when the two keys compare as 0."
abbrev pub HasKey : List ℕ → Key → Rec → Type 0
HasKey img k x = demands.HasKey hfs img (of_key hfs k) x

-- of a sound image and a key with a lawful fork byte
pub record SoundAnswer (img : List ℕ) (k : Key) (r : Lookup) : Type 0 where
  -- found and absent, the place, the path and the keys compared, as of every form
  pub answer : demands.SoundAnswer hfs img (of_key hfs k) r
  -- "at most six in a 512-byte node": in each node of the path, so at most six times its length
  pub six : (n : ℕ) → n ∈ search_path img k → (halved_in (view img) (rank k) n).compared ≤ 6
  pub few : r.compared ≤ 6 * length (search_path img k)

-- what a lookup says of any image and any key where so many bytes are lent; "Of anything else it says neither: it refuses."
pub record LookupSays (img : List ℕ) (k : Key) (lent : ℕ) (r : Lookup) : Type 0 where
  pub of_sound : Sound img → Lawful k.fork → needed img ≤ lent → SoundAnswer img k r
  pub of_unlawful : (Lawful k.fork → ⊥) → r ≡ refused 11 image_start
  -- W-206: "Fewer than the nodes need: 16, tested after 11, 15 and 1"
  pub of_few : Lawful k.fork → TooFew img lent → r ≡ refused 16 image_start
  pub of_unsound : Lawful k.fork → (TooFew img lent → ⊥) → (Sound img → ⊥) → r ≡ refused (verdict img).number (verdict img).place
  -- "no such check or lookup answers 16"
  pub of_enough : needed img ≤ lent → (lookup_reply r.answer).number ≡ 16 → ⊥

abbrev pub SalvageSays : List ℕ → Key → Salvage → Type 0
SalvageSays img k r = salvage.SalvageSays hfs img (of_key hfs k) r

-- the slice r is this part of the image, and lies where it does
abbrev pub PartOf : Bor (List ℕ) → Bor (List ℕ) → Part → Type 0
PartOf image r p = demands.PartOf image r p
