-- Demands 2 and 3 of an HFS volume's catalog: what is said of every form, the entry, and how many keys a lookup compares at most.
-- Assumes nothing.
use Rattle.std.specs.Prelude.{◌≡◌, List, ℕ, ◌+◌, ◌*◌, ◌≤◌, length}
use Rattle.std.specs.Borrow.{Bor}
use Rattle.btree.specs.declared.Place.{Place}
use Rattle.btree.specs.Places.{image_start}
use Rattle.btree.specs.Lists.{◌∈◌}
use Rattle.btree.specs.Tree.{Rec}
use Rattle.btree.specs.Search.{halved_in}
use Rattle.frame.specs.Form.{catalog}
use Rattle.catalog_keys.specs.Key.{Key, IsShort, rank}
use Rattle.catalog_entries.specs.declared.Entry.{Entry}
use Rattle.reader.specs.Reader.{Part}
use Rattle.reader.specs.Demands as demands
use Rattle.reader.specs.Salvage as salvage
use Rattle.catalog.specs.declared.answers.Answer.TheVariants.{Found}
use Rattle.catalog.specs.declared.answers.Lookup.{Lookup}
use Rattle.catalog.specs.declared.answers.Salvage.{Salvage}
use Rattle.catalog.specs.declared.answers.Salvage.TheVariants.{Seen}
use Rattle.catalog.specs.Asked.{of_key}
use Rattle.catalog.specs.Answers.{entry_of, plain, plain_seen, refused}
use Rattle.catalog.specs.Reader.{view, Sound, verdict, needed, TooFew, search_path, lookup_reply, data_part}
use Rattle.catalog.specs.Types.{FourTypes}

-- "A record has the asked key when the two keys compare as 0."
abbrev pub HasKey : List ℕ → Key → Rec → Type 0
HasKey img k x = demands.HasKey catalog img (of_key k) x

-- of a sound image and a name of at most 31 bytes
pub record SoundAnswer (img : List ℕ) (k : Key) (r : Lookup) : Type 0 where
  -- found and absent, the place, the path and the keys compared, as of every form
  pub answer : demands.SoundAnswer catalog img (of_key k) (plain r)
  -- "Found says which of the four kinds it is, with its fields"
  pub entry : (p : Place) (e : Entry) → r.answer ≡ Found p e → e ≡ entry_of img p
  -- which tell its type and how many bytes its data has
  pub types : (p : Place) (e : Entry) → r.answer ≡ Found p e → FourTypes img p e
  -- and the image has them
  pub inside : (p : Place) (e : Entry) → r.answer ≡ Found p e → (data_part img p).at + (data_part img p).size ≤ length img
  -- "at most the binary digits of the count in each node": "A leaf holds 1 to 8 records, an index node 1 to 11", which have at most four
  pub four : (n : ℕ) → n ∈ search_path img k → (halved_in (view img) (rank k) n).compared ≤ 4
  pub few : r.compared ≤ 4 * length (search_path img k)

-- what a lookup says of any image and any key where so many bytes are lent; "Of anything else it says neither: it refuses."
pub record LookupSays (img : List ℕ) (k : Key) (lent : ℕ) (r : Lookup) : Type 0 where
  pub of_sound : Sound img → IsShort k → needed img ≤ lent → SoundAnswer img k r
  -- "An asked name above 31 bytes is 11."
  pub of_long : (IsShort k → ⊥) → r ≡ refused 11 image_start
  -- W-206: "Fewer than the nodes need: 16, tested after 11, 15 and 1"
  pub of_few : IsShort k → TooFew img lent → r ≡ refused 16 image_start
  pub of_unsound : IsShort k → (TooFew img lent → ⊥) → (Sound img → ⊥) → r ≡ refused (verdict img).number (verdict img).place
  -- "no such check or lookup answers 16"
  pub of_enough : needed img ≤ lent → (lookup_reply r.answer).number ≡ 16 → ⊥

pub record SalvageSays (img : List ℕ) (k : Key) (r : Salvage) : Type 0 where
  -- the first match, as of every form
  pub answer : salvage.SalvageSays catalog img (of_key k) (plain_seen r)
  -- "Seen likewise."
  pub entry : (p : Place) (e : Entry) → r ≡ Seen p e → e ≡ entry_of img p

-- the slice r is this part of the image, and lies where it does
abbrev pub PartOf : Bor (List ℕ) → Bor (List ℕ) → Part → Type 0
PartOf image r p = demands.PartOf image r p
