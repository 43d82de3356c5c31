-- What salvage sees in a node, in the nodes of an image one after another, and what comes first.
-- Assumes nothing.
use Rattle.std.proofs.Math.Option.{Option, none, some}
use Rattle.std.specs.Prelude.{List, ℕ, zero, suc, ◌<◌}
use Rattle.btree.specs.declared.Salvage.{Salvage}
use Rattle.btree.specs.declared.Salvage.TheVariants.{Seen, NotSeen}
use Rattle.btree.specs.Places.{record_place}
use Rattle.btree.specs.Decide.{cond}
use Rattle.btree.specs.Header.{count_of}
use Rattle.btree.specs.Search.{record_with}
use Rattle.frame.specs.declared.form.Form.{Form}
use Rattle.frame.specs.Form.{layout_of}
use Rattle.formats.specs.Format.{view}
use Rattle.order.specs.Whole.{dec_whole_leaf}

module _ (form : Form) (img : List ℕ) where
  -- the record of the node n that has the key k, if the node counts
  unfoldable pub seen_in : ℕ → ℕ → Option ℕ
  seen_in k n = cond (dec_whole_leaf form img n) (record_with (view form img) n k 0 (count_of (layout_of form) img n)) none

  -- W-208: "Found and seen give the record's start"
  abbrev pub seen_or : ℕ → Option ℕ → Salvage → Salvage
  seen_or n none r = r
  seen_or n (some i) r = Seen (record_place (view form img) n i)

  -- the first node from n on, of as many as are left, that counts and has the key k: "The first match is seen"
  unfoldable pub seen_from : ℕ → ℕ → ℕ → Salvage
  seen_from k n zero = NotSeen
  seen_from k n (suc left) = seen_or n (seen_in k n) (seen_from k (suc n) left)

-- "The first match is seen": among matches in any words, record i of the node n comes first
pub record First (P : ℕ → ℕ → Type 0) (n i : ℕ) : Type 0 where
  pub here : P n i
  pub none_in_node : (j : ℕ) → j < i → P n j → ⊥
  pub none_earlier : (m j : ℕ) → m < n → P m j → ⊥
