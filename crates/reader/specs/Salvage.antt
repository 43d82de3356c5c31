-- What salvage says of an image and a key, rule by rule.
-- Assumes nothing.
use Rattle.std.specs.Prelude.{◌≡◌, ◌↔◌, List, ℕ, ◌*◌, ◌/◌, ◌<◌, ◌≤◌, length}
use Rattle.btree.specs.declared.Place.{Place}
use Rattle.btree.specs.declared.Salvage.{Salvage}
use Rattle.btree.specs.declared.Salvage.TheVariants.{Seen, NotSeen, Refused}
use Rattle.btree.specs.Places.{image_start, record_place}
use Rattle.btree.specs.Header.{count_of}
use Rattle.frame.specs.declared.form.Form.{Form}
use Rattle.frame.specs.Form.{layout_of}
use Rattle.formats.specs.Format.{record_at, view}
use Rattle.order.specs.Whole.{WholeLeaf}
use Rattle.scan.specs.Seen.{First}
use Rattle.reader.specs.Query.{Query}

module _ (form : Form) (img : List ℕ) (q : Query) where
  -- record i of the node n is a match
  pub record Match (n i : ℕ) : Type 0 where
    -- "From node 1 up"
    pub after_header : 1 ≤ n
    -- "a broken last node is ignored"
    pub complete : n < length img / form.size
    -- "a node counts if it is kind FF, passes the tests of 5 without the level, and its keys strictly ascend"
    pub counts : WholeLeaf form img n
    pub inside : i < count_of (layout_of form) img n
    -- "A record has the asked key when the two keys compare as 0."
    pub is_key : q.IsAt img (record_at form img n i)

  -- "Salvage tests 11, then length": the key is lawful and the image not too long
  pub record Searched : Type 0 where
    pub lawful : q.Lawful
    pub few : length img ≤ 65536 * form.size

  pub record SalvageSays (r : Salvage) : Type 0 where
    -- 11: "asked key has a fork byte other than 00 or FF", W-204: "An asked name above 31 bytes"
    pub unlawful : (q.Lawful → ⊥) → r ≡ Refused 11 image_start
    -- W-211: "The limit is 65,536 times the node size in bytes, for salvage too": more is 1; "any other length is taken"
    pub long : q.Lawful → 65536 * form.size < length img → r ≡ Refused 1 image_start
    -- seen exactly when a match comes first; W-208: with "the record's start"
    pub seen : Searched → (p : Place) → (r ≡ Seen p) ↔ ((n : ℕ) × (i : ℕ) × First Match n i × (record_place (view form img) n i ≡ p))
    pub not_seen : Searched → (r ≡ NotSeen) ↔ ((n i : ℕ) → Match n i → ⊥)
