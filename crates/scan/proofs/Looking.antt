-- The search for a key as the code makes it: record after record of a node, node after node of an image.
-- Assumes nothing.
use mathlib.Core.Path.{◌≡◌}
use mathlib.Core.Logic.Dec
use mathlib.Core.Logic.{◌≢◌}
use mathlib.Core.Bool.{true, false}
use mathlib.Core.Option.{none, some}
use mathlib.Core.List.{List}
use Prim.Native.Nat.{ℕ, ◌+◌, ◌-◌, ◌<◌, ◌≤◌}
use native.Mathlib.Decide.{ℕ_discrete}
use native.Mathlib.Numerals.{add-one}
use Rattle.btree.specs.declared.Salvage.TheVariants.{Seen, NotSeen}
use Rattle.btree.specs.Places.{record_place}
use Rattle.btree.specs.Decide.{says, first_not}
use Rattle.btree.specs.Tree.{View}
use Rattle.btree.specs.Header.{view_of}
use Rattle.btree.specs.Search.{record_with}
use Rattle.btree.proofs.Decisions.{cond_yes, cond_no, said, unsaid}
use Rattle.frame.specs.declared.form.Form.{Form}
use Rattle.formats.specs.Format.{view}
use Rattle.order.specs.Whole.{dec_whole_leaf}
use Rattle.scan.specs.Seen.{seen_in, seen_from}
use Rattle.btree.proofs.Left.{one_more, none_left}

-- the records of a node from i on
module _ (v : View) (n k c i : ℕ) where
  pub with-end : c ≤ i → record_with v n k i (c - i) ≡ none
  unfolding first_not
  with-end h = rw (none_left c i h)

  pub with-here : i < c → v.key n i ≡ k → record_with v n k i (c - i) ≡ some i
  unfolding first_not
  with-here h e = rw (one_more c i h) (cond_no (Dec.not (ℕ_discrete (v.key n i) k)) _ _ (λ f. f e))

  pub with-on : i < c → v.key n i ≢ k → record_with v n k i (c - i) ≡ record_with v n k (i + 1) (c - (i + 1))
  unfolding first_not
  with-on h e = rw (one_more c i h, add-one i) (cond_yes (Dec.not (ℕ_discrete (v.key n i) k)) _ _ e)

-- a node, by whether it counts
module _ (form : Form) (img : List ℕ) (k n : ℕ) where
  pub seen-not : says (dec_whole_leaf form img n) ≡ false → seen_in form img k n ≡ none
  unfolding seen_in
  seen-not e = cond_no (dec_whole_leaf form img n) _ _ (unsaid (dec_whole_leaf form img n) e)

  pub seen-whole : says (dec_whole_leaf form img n) ≡ true → seen_in form img k n ≡ record_with (view form img) n k 0 ((view form img).count n)
  unfolding seen_in view_of
  seen-whole e = cond_yes (dec_whole_leaf form img n) _ _ (said (dec_whole_leaf form img n) e)

-- the nodes of an image from n on
module _ (form : Form) (img : List ℕ) (k total n : ℕ) where
  pub seen_end : total ≤ n → seen_from form img k n (total - n) ≡ NotSeen
  unfolding seen_from
  seen_end h = rw (none_left total n h)

  pub seen_here : (i : ℕ) → n < total → seen_in form img k n ≡ some i → seen_from form img k n (total - n) ≡ Seen (record_place (view form img) n i)
  unfolding seen_from
  seen_here i h e = rw (one_more total n h, e)

  pub seen-on : n < total → seen_in form img k n ≡ none → seen_from form img k n (total - n) ≡ seen_from form img k (n + 1) (total - (n + 1))
  unfolding seen_from
  seen-on h e = rw (one_more total n h, e, add-one n)
