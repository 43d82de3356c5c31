-- W-209: what is answered where a tree is to be laid down, and what the target then holds.
-- Assumes nothing.
use Rattle.std.specs.Prelude.{List, ℕ, ◌/◌, length}
use Rattle.std.proofs.Math.Decide.{dec_le}
use Rattle.btree.specs.declared.Verdict.{Verdict}
use Rattle.btree.specs.Places.{image_start}
use Rattle.btree.specs.Decide.{says, if_zero}
use Rattle.btree.specs.Walk.{fine, fails, unless}
use Rattle.btree.specs.Tests.{dec_lengths}
use Rattle.frame.specs.Form.{hfs, layout_of}
use Rattle.laid.specs.Laid.{laid, wanted}
use Rattle.leaf_rows.specs.Row.{dec_row_law}

-- how many whole nodes a target has
abbrev pub nodes_in : List ℕ → ℕ
nodes_in target = length target / 512

module _ (row target : List ℕ) where
  -- "Refusals in order, target untouched: target length by 1; a row not of whole records, or with a wrong length or fork byte or keys out of order, 19; more
  -- nodes wanted than the target has, 20."; W-203: "numbers from 15 up have place 0"
  unfoldable pub write_answer : Verdict
  write_answer =
      unless (says (dec_lengths (layout_of hfs) target)) (fails 1 image_start)
      (unless (says (dec_row_law row)) (fails 19 image_start)
      (unless (says (dec_le (wanted row (nodes_in target)) (nodes_in target))) (fails 20 image_start) fine))

  -- what the target then holds: the image, on 0; else "target untouched"
  unfoldable pub written : List ℕ
  written = if_zero write_answer.number (laid row (nodes_in target)) target
