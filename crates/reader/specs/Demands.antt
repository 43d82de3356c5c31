-- Demand 3, in the words of the rules, the leaf records, the search path and the keys compared.
-- Assumes nothing.
use Rattle.std.specs.Prelude.{◌≡◌, ◌↔◌, List, ℕ, ◌^◌, ◌≤◌, ◌<◌, length}
use Rattle.std.specs.Borrow.{Bor}
use Rattle.image.specs.Part.{Lies}
use Rattle.btree.specs.declared.Answer.TheVariants.{Found, Absent}
use Rattle.btree.specs.declared.Lookup.{Lookup}
use Rattle.btree.specs.declared.Place.{Place}
use Rattle.btree.specs.Places.{image_start}
use Rattle.btree.specs.Lists.{◌∈◌, last_or}
use Rattle.btree.specs.Tree.{Rec}
use Rattle.btree.specs.Header.{depth_of}
use Rattle.btree.specs.Numbers.{lookup_reply}
use Rattle.btree.specs.Search.{place_of, path_out, refused, halved_in}
use Rattle.frame.specs.declared.form.Form.{Form}
use Rattle.formats.specs.Format.{record_at, view}
use Rattle.reader.specs.Query.{Query}
use Rattle.reader.specs.Reader.{Sound, verdict, needed, TooFew, leaf_list, search_path, keys_compared, Part}

-- the slice r is this part of the image, and lies where it does
abbrev pub PartOf : Bor (List ℕ) → Bor (List ℕ) → Part → Type 0
PartOf image r p = Lies image r p.at p.size

module _ (form : Form) (img : List ℕ) (q : Query) where
  -- "A record has the asked key when the two keys compare as 0."
  abbrev pub HasKey : Rec → Type 0
  HasKey x = q.IsAt img (record_at form img x.node x.number)

  -- of a sound image and a key that may be asked for
  pub record SoundAnswer (r : Lookup) : Type 0 where
    -- found exactly when one of the leaf records has the key; W-208: with "the record's start"
    pub found : (p : Place) → (r.answer ≡ Found p) ↔ ((x : Rec) × (x ∈ leaf_list form img) × (HasKey x) × (place_of x ≡ p))
    -- and then no other has it
    pub once : (x y : Rec) → x ∈ leaf_list form img → y ∈ leaf_list form img → HasKey x → HasKey y → x ≡ y
    -- absent exactly when none has it
    pub absent : ((n : ℕ) × (r.answer ≡ Absent n)) ↔ ((x : Rec) → x ∈ leaf_list form img → HasKey x → ⊥)
    -- "Absent is 12 with the road's last node, or 0 if the road is empty"
    pub last_node : (n : ℕ) → r.answer ≡ Absent n → n ≡ last_or 0 (search_path form img q)
    -- "A lookup that is not refused reports this road, with its length."
    pub path : r.path ≡ path_out (search_path form img q)
    -- as long as the tree is deep when found, never longer, never above eight
    pub whole : (p : Place) → r.answer ≡ Found p → length (search_path form img q) ≡ depth_of img
    pub short : length (search_path form img q) ≤ depth_of img
    pub eight : depth_of img ≤ 8
    -- W-202: "A lookup also answers how many keys it compared so, in all"
    pub counted : r.compared ≡ keys_compared form img q
    -- W-211: "at most the binary digits of the count in each node": b digits are enough for a count below 2 to the power of b
    pub digits : (n : ℕ) → n ∈ search_path form img q → (b : ℕ) → (view form img).count n < 2 ^ b → (halved_in (view form img) q.rank n).compared ≤ b

  -- what a lookup says of any image and any key where so many bytes are lent; "Of anything else it says neither: it refuses."
  pub record LookupSays (lent : ℕ) (r : Lookup) : Type 0 where
    pub of_sound : Sound form img → q.Lawful → needed form img ≤ lent → SoundAnswer r
    pub of_unlawful : (q.Lawful → ⊥) → r ≡ refused 11 image_start
    -- W-206: "Fewer than the nodes need: 16, tested after 11, 15 and 1"
    pub of_few : q.Lawful → TooFew form img lent → r ≡ refused 16 image_start
    pub of_unsound : q.Lawful → (TooFew form img lent → ⊥) → (Sound form img → ⊥) → r ≡ refused (verdict form img).number (verdict form img).place
    -- "no such check or lookup answers 16"
    pub of_enough : needed form img ≤ lent → (lookup_reply r.answer).number ≡ 16 → ⊥
