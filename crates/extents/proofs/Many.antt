-- A lookup of many keys keeps its promise: what is answered, and which results are written.
-- Assumes nothing.
use mathlib.Core.Path.{◌≡◌, sym, ap, fun_ext, ◌∙◌}
use mathlib.Core.Logic.{◌≢◌, ◌⊎◌, inl, inr, ⊎_elim}
use mathlib.Core.List.{List}
use Prim.Native.Nat.{ℕ, ◌≤◌, ◌<◌}
use native.Mathlib.Omega.{arith}
use native.Mathlib.Decide.{ℕ_discrete, dec_le}
use lib.ListN.{length, get_or, drop}
use Rattle.btree.specs.declared.Verdict.{Verdict}
use Rattle.btree.specs.Places.{image_start}
use Rattle.btree.specs.Walk.{fails}
use Rattle.btree.proofs.Decisions.{says-yes, says-no}
use Rattle.btree.proofs.First.{unless-true, unless-false}
use Rattle.btree.proofs.Ordered.{if-zero, if-other}
use Rattle.btree.proofs.Checked.{check-says, checked-not}
use Rattle.frame.specs.Form.{hfs, layout_of}
use Rattle.frame.proofs.Forms.{hfs-listed, fair, fits}
use Rattle.formats.specs.Format.{format_of}
use Rattle.image.proofs.Words.{Bytes}
use Rattle.search.specs.Rows.{result_in, filled, Placeable}
use Rattle.search.proofs.Searched.{searchable}
use Rattle.search.proofs.Filled.{filled_at, filled-beyond, filled-whole}
use Rattle.extents.specs.Reader.{Sound, checked, Leaves}
use Rattle.extents.specs.Many.{result, many_answer, many_results, ResultSays, ManySays}
use Rattle.reader.proofs.Demands.{answer-inside}
use Rattle.extents.proofs.Results.{result-is, result_says}

-- every place of data in a sound image fits 32 bits
pub placeable : (img : List ℕ) → Sound img → Placeable img
placeable img s =
    record {
      searchable = searchable hfs (fair hfs hfs-listed) img s;
      small = λ k p e. let a = answer-inside hfs (fair hfs hfs-listed) img s k p e in let l = s.lengths.few in omega arith;
    }

-- what is answered and written
module _ (img : List ℕ) (b : Bytes img) (keys entry : List ℕ) (lent : ℕ) where
  answer-short : length entry < length keys → many_answer img keys entry lent ≡ fails 15 image_start
  unfolding many_answer
  answer-short h = unless-false _ _ _ (says-no (dec_le (length keys) (length entry)) (λ q. omega arith))

  answer-checked : length keys ≤ length entry → many_answer img keys entry lent ≡ checked img lent
  unfolding many_answer
  answer-checked h = unless-true _ _ _ (says-yes (dec_le (length keys) (length entry)) h)

  results-stay : (many_answer img keys entry lent).number ≢ 0 → many_results img keys entry lent ≡ entry
  unfolding many_results
  results-stay h = if-other (many_answer img keys entry lent).number _ _ h

  results-filled : (many_answer img keys entry lent).number ≡ 0 → many_results img keys entry lent ≡ filled (result img lent) keys entry
  unfolding many_results
  results-filled z = if-zero (many_answer img keys entry lent).number _ _ z

  -- 0 is answered where the row is long enough and the check says so
  zero-checked : (many_answer img keys entry lent).number ≡ 0 → (length keys ≤ length entry) × ((checked img lent).number ≡ 0)
  zero-checked z = go (dec_le (length keys) (length entry))
    where
      go : Dec (length keys ≤ length entry) → (length keys ≤ length entry) × ((checked img lent).number ≡ 0)
      go (yes h) = (h, sym (ap (λ (t : Verdict). t.number) (answer-checked h)) ∙ z)
      go (no h) = let e = ap (λ (t : Verdict). t.number) (answer-short (omega arith)) in absurd (omega arith)

  module _ (exit : List ℕ) (r : Verdict) (is : r ≡ many_answer img keys entry lent) (row : exit ≡ many_results img keys entry lent) where
    number_is : r.number ≡ (many_answer img keys entry lent).number
    number_is = ap (λ (t : Verdict). t.number) is

    only-short : r ≡ fails 15 image_start → length entry < length keys
    only-short z = go (dec_le (length keys) (length entry))
      where
        go : Dec (length keys ≤ length entry) → length entry < length keys
        go (yes h) = absurd (checked-not (layout_of hfs) img (format_of hfs) lent 15 (omega arith) (λ q. omega arith) (ap (λ (t : Verdict). t.number) (sym (is ∙ answer-checked h) ∙ z)))
        go (no h) = omega arith

    each : r.number ≡ 0 → (i : ℕ) → i < length keys → ResultSays img (get_or keys i 0) (get_or exit i 0)
    each z i h =
        let a = sym number_is ∙ z in
        rw (row ∙ results-filled a, filled_at (result img lent) keys entry i h) (result_says img b lent (get_or keys i 0) (zero-checked a).1)

    -- the row is as it was, or has its results
    either : (exit ≡ entry) ⊎ ((length keys ≤ length entry) × (exit ≡ filled (result img lent) keys entry))
    either = go (ℕ_discrete r.number 0)
      where
        go : Dec (r.number ≡ 0) → (exit ≡ entry) ⊎ ((length keys ≤ length entry) × (exit ≡ filled (result img lent) keys entry))
        go (yes z) = let a = sym number_is ∙ z in inr ((zero-checked a).0, row ∙ results-filled a)
        go (no n) = inl (row ∙ results-stay (λ z. n (number_is ∙ z)))

    many-says : ManySays img keys entry exit lent r
    many-says =
        record {
          short = (only-short, λ h. is ∙ answer-short h);
          of_others = λ h. check-says (layout_of hfs) img (format_of hfs) lent (fits hfs (fair hfs hfs-listed)) r (is ∙ answer-checked h);
          unwritten = λ n. row ∙ results-stay (λ z. n (number_is ∙ z));
          each = each;
          beyond = ⊎_elim (ap (drop (length keys))) (λ (h, e). ap (drop (length keys)) e ∙ filled-beyond (result img lent) keys entry) either;
          row_length = ⊎_elim (ap length) (λ (h, e). ap length e ∙ filled-whole (result img lent) keys entry h) either;
        }

  -- what a lookup of many keys promises
  module _ (exit before after : List ℕ) (r : Verdict) (w : Leaves img r.number before after) where
    abbrev Promised : Type 0
    Promised = (r ≡ many_answer img keys entry lent) × ((exit ≡ many_results img keys entry lent) × (ManySays img keys entry exit lent r × Leaves img r.number before after))

    promised : r ≡ many_answer img keys entry lent → exit ≡ many_results img keys entry lent → Promised
    promised e q = (e, (q, (many-says exit r e q, w)))

    -- nothing is written after any answer but 0
    unwritten : r ≡ many_answer img keys entry lent → r.number ≢ 0 → exit ≡ entry → Promised
    unwritten e n q = promised e (q ∙ sym (results-stay (λ z. n (ap (λ (t : Verdict). t.number) e ∙ z))))

    pub refuses-row : length entry < length keys → r ≡ fails 15 image_start → exit ≡ entry → Promised
    refuses-row h e q = unwritten (e ∙ sym (answer-short h)) (λ z. let n = ap (λ (t : Verdict). t.number) e in omega arith) q

    module _ (h : length keys ≤ length entry) (e : r ≡ checked img lent) where
      pub refuses-image : r.number ≢ 0 → exit ≡ entry → Promised
      refuses-image n q = unwritten (e ∙ sym (answer-checked h)) n q

      pub fills : r.number ≡ 0 → exit ≡ filled (result_in img) keys entry → Promised
      fills z q =
          let c = sym (ap (λ (t : Verdict). t.number) e) ∙ z in
          promised (e ∙ sym (answer-checked h))
          (q ∙ ap (λ (f : ℕ → ℕ). filled f keys entry) (fun_ext (λ k. result-is img b lent k c)) ∙ sym (results-filled (ap (λ (t : Verdict). t.number) (answer-checked h) ∙ c)))
