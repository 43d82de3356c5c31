-- What is answered says what the request says, and the image laid down is what the request asks for.
-- Assumes nothing.
use mathlib.Core.Path.{◌≡◌, refl, sym, ap, ◌∙◌}
use mathlib.Core.Logic.{◌≢◌}
use mathlib.Core.Bool.{false, true}
use mathlib.Core.List.{List}
use Prim.Native.Nat.{ℕ, zero, suc, ◌≤◌, ◌<◌}
use native.Mathlib.Omega.{arith}
use native.Mathlib.Decide.{dec_le}
use lib.ListN.{length}
use Rattle.btree.specs.declared.Verdict.{Verdict}
use Rattle.btree.specs.Places.{image_start}
use Rattle.btree.specs.Decide.{says, if_zero}
use Rattle.btree.specs.Walk.{fine, fails, unless}
use Rattle.btree.specs.Image.{Lengths}
use Rattle.btree.specs.Tests.{dec_lengths}
use Rattle.btree.proofs.Decisions.{says-yes, says-no}
use Rattle.frame.specs.Form.{hfs, layout_of}
use Rattle.frame.proofs.Forms.{hfs-listed, fair}
use Rattle.reader.proofs.Soundness.{verdict-iff}
use Rattle.extents.proofs.Laws.{checked-says}
use Rattle.shape.proofs.Levels.{range_length}
use Rattle.shape.specs.Shape.{records_in}
use Rattle.laid.specs.Laid.{laid, wanted}
use Rattle.leaf_rows.specs.Row.{RowLaw, dec_row_law}
use Rattle.laid.proofs.Result.{row-length, sound-maps, sound-wants, laid-length, laid-maps, laid-sound, laid-row, laid-least}
use Rattle.writing.specs.Written.{nodes_in, write_answer, written}
use Rattle.writing.specs.Demands.{HoldsRow, IsFresh, WriteSays}

module _ (row target : List ℕ) where
  -- an image that holds the row shows that it fits
  wants : (l : Lengths (layout_of hfs) target) (image : List ℕ) → HoldsRow row target image → wanted row (nodes_in target) ≤ nodes_in target
  unfolding wanted
  wants l image h =
      let a = row-length image h.sound in
      sound-wants image h.sound (nodes_in target) (records_in row) (omega (arith, h.long, l.whole)) (omega (arith, ap length h.again))

  module _ (l : Lengths (layout_of hfs) target) (law : RowLaw row) (room : wanted row (nodes_in target) ≤ nodes_in target) where
    abbrev image : List ℕ
    image = laid row (nodes_in target)

    few : nodes_in target ≤ 65536
    few = omega (arith, l.few)

    holds : HoldsRow row target image
    holds =
        record {
          sound = laid-sound row (nodes_in target) law few room;
          again = laid-row row (nodes_in target) law few room;
          long = laid-length row (nodes_in target) room ∙ omega (arith, l.whole);
        }

    is-fresh : IsFresh row target image
    is-fresh =
        record {
          holds = holds;
          fewest = laid-least row (nodes_in target) law few room;
          fewest_maps = λ other s e. rw (laid-maps row (nodes_in target) room, range_length) (sound-maps other s (nodes_in target) (omega (arith, l.whole)));
          checks = λ lent enough. ((checked-says image lent).of_enough enough).0 ∙ (verdict-iff hfs (fair hfs hfs-listed) image).1 holds.sound;
        }

  -- no two of the answers are one
  apart : (a b : ℕ) → a ≢ b → ◌≢◌ {A = Verdict} (fails a image_start) (fails b image_start)
  apart a b n e = n (ap (λ (v : Verdict). v.number) e)

  says_all : (a : Dec (Lengths (layout_of hfs) target)) (b : Dec (RowLaw row)) (c : Dec (wanted row (nodes_in target) ≤ nodes_in target))
      → let r : Verdict = unless (says a) (fails 1 image_start) (unless (says b) (fails 19 image_start) (unless (says c) (fails 20 image_start) fine)) in
      WriteSays row target (if_zero r.number (laid row (nodes_in target)) target) r
  unfolding says
  says_all (no n) b c =
      record {
        of_length = (λ e. n, λ f. refl);
        of_row = (λ e. absurd (apart 1 19 (λ z. omega arith) e), λ h. absurd (n h.0));
        of_room = (λ e. absurd (apart 1 20 (λ z. omega arith) e), λ h. absurd (n h.0));
        of_fit = (λ e. absurd (apart 1 0 (λ z. omega arith) e), λ h. absurd (n h.0));
        untouched = λ e. refl;
        fresh = λ e. absurd (omega arith);
      }
  says_all (yes l) (no n) c =
      record {
        of_length = (λ e. absurd (apart 19 1 (λ z. omega arith) e), λ f. absurd (f l));
        of_row = (λ e. (l, n), λ h. refl);
        of_room = (λ e. absurd (apart 19 20 (λ z. omega arith) e), λ h. absurd (n h.1));
        of_fit = (λ e. absurd (apart 19 0 (λ z. omega arith) e), λ h. absurd (n h.1));
        untouched = λ e. refl;
        fresh = λ e. absurd (omega arith);
      }
  says_all (yes l) (yes law) (no n) =
      record {
        of_length = (λ e. absurd (apart 20 1 (λ z. omega arith) e), λ f. absurd (f l));
        of_row = (λ e. absurd (apart 20 19 (λ z. omega arith) e), λ h. absurd (h.1 law));
        of_room = (λ e. (l, law, λ image h. n (wants l image h)), λ h. refl);
        of_fit = (λ e. absurd (apart 20 0 (λ z. omega arith) e), λ h. absurd (n (wants l h.2.0 h.2.1)));
        untouched = λ e. refl;
        fresh = λ e. absurd (omega arith);
      }
  says_all (yes l) (yes law) (yes room) =
      record {
        of_length = (λ e. absurd (apart 0 1 (λ z. omega arith) e), λ f. absurd (f l));
        of_row = (λ e. absurd (apart 0 19 (λ z. omega arith) e), λ h. absurd (h.1 law));
        of_room = (λ e. absurd (apart 0 20 (λ z. omega arith) e), λ h. absurd (h.2 (image l law room) (holds l law room)));
        of_fit = (λ e. (l, law, (image l law room, holds l law room)), λ h. refl);
        untouched = λ n. absurd (n refl);
        fresh = λ e. is-fresh l law room;
      }

  pub write-says : WriteSays row target (written row target) (write_answer row target)
  unfolding write_answer written
  write-says = says_all (dec_lengths (layout_of hfs) target) (dec_row_law row) (dec_le (wanted row (nodes_in target)) (nodes_in target))

  -- the answer, by the first test that fails
  pub refused-1 : says (dec_lengths (layout_of hfs) target) ≡ false → write_answer row target ≡ fails 1 image_start
  unfolding write_answer
  refused-1 a = rw a

  pub refused-19 : says (dec_lengths (layout_of hfs) target) ≡ true → says (dec_row_law row) ≡ false → write_answer row target ≡ fails 19 image_start
  unfolding write_answer
  refused-19 a b = rw (a, b)

  pub refused-20 : says (dec_lengths (layout_of hfs) target) ≡ true → says (dec_row_law row) ≡ true → nodes_in target < wanted row (nodes_in target) → write_answer row target ≡ fails 20 image_start
  unfolding write_answer
  refused-20 a b l = rw (a, b, says-no (dec_le (wanted row (nodes_in target)) (nodes_in target)) (λ h. omega arith))

  pub accepted : says (dec_lengths (layout_of hfs) target) ≡ true → says (dec_row_law row) ≡ true → wanted row (nodes_in target) ≤ nodes_in target → write_answer row target ≡ fine
  unfolding write_answer
  accepted a b l = rw (a, b, says-yes (dec_le (wanted row (nodes_in target)) (nodes_in target)) l)

  -- all that is promised of an answer and of what the target then holds
  pub record Promised (exit : List ℕ) (r : Verdict) : Type 0 where
    pub equal : r ≡ write_answer row target
    pub bytes : exit ≡ written row target
    pub demand : WriteSays row target exit r

  promised : (exit : List ℕ) (r : Verdict) → r ≡ write_answer row target → exit ≡ written row target → Promised exit r
  promised exit r e f = record { equal = e; bytes = f; demand = rw (e, f) write-says }

  pub refusal : (n : ℕ) (r : Verdict) → 0 < n → write_answer row target ≡ fails n image_start → r ≡ fails n image_start → Promised target r
  unfolding written
  refusal zero r l a e = absurd (omega arith)
  refusal (suc n) r l a e = promised target r (e ∙ sym a) (rw a)

  pub success : (exit : List ℕ) (r : Verdict) → write_answer row target ≡ fine → r ≡ fine → exit ≡ laid row (nodes_in target) → Promised exit r
  unfolding written
  success exit r a e f = promised exit r (e ∙ sym a) (f ∙ rw a)
