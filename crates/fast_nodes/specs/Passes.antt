-- What the fast tests of a node find where they pass. No public promise mentions it.
-- Assumes nothing.
use Rattle.std.specs.Prelude.{◌≡◌, List, ℕ, ◌+◌, ◌-◌, ◌*◌, ◌<◌, ◌≤◌, get_or}
use Rattle.std.proofs.Math.Option.{Option, none}
use Rattle.image.specs.Bytes.{be16_at, be64_at}
use Rattle.btree.specs.Header.{count_of, back_of}
use Rattle.btree.specs.Walk.{wrong_key}
use Rattle.frame.specs.declared.form.Form.{Form}
use Rattle.frame.specs.Form.{hfs, layout_of}
use Rattle.frame.specs.Kinds.{leaf_kind, level_of}
use Rattle.formats.specs.Format.{record_at, Records, view}
use Rattle.order.specs.Whole.{Ascends}
use Rattle.fast_records.specs.Keyed.{packed_at, Keyed}

-- the node that starts at this byte has this kind, and records of this size with keys to one below `top`
pub record Recorded (img : List ℕ) (start kind size top : ℕ) : Type 0 where
  pub is_kind : get_or img (start + 8) 0 ≡ kind
  pub reserved : be16_at img (start + 12) ≡ 0
  pub some : 0 < be16_at img (start + 10)
  pub few : be16_at img (start + 10) * size + 2 * be16_at img (start + 10) ≤ 496
  pub keyed : Keyed img start size (be16_at img (start + 10)) top

-- the first bytes of a leaf: its kind, level and reserved word
pub record LeafHead (img : List ℕ) (start : ℕ) : Type 0 where
  pub is_kind : get_or img (start + 8) 0 ≡ leaf_kind
  pub level : get_or img (start + 9) 0 ≡ 1
  pub reserved : be16_at img (start + 12) ≡ 0

-- tests 5 and 6 of a node
pub record Passes (form : Form) (img : List ℕ) (n d : ℕ) (lo hi : Option ℕ) : Type 0 where
  pub formed : (view form img).WellFormed n d
  pub ordered : wrong_key (view form img) lo hi n ≡ none

-- an HFS leaf with this back link, whose keys are from this one, by its eight bytes, to one below `top`
pub record LeafPasses (img : List ℕ) (n before raw top : ℕ) : Type 0 where
  pub level : level_of hfs img n ≡ 1
  pub records : Records hfs img leaf_kind n
  pub ascend : Ascends (view hfs img) n
  pub first : be64_at img (record_at hfs img n 0) ≡ raw
  pub under : packed_at img (record_at hfs img n (count_of (layout_of hfs) img n - 1)) < top
  pub back : back_of (layout_of hfs) img n ≡ before
