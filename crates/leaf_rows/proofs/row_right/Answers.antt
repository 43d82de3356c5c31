-- `row_right` meets its contract. Assumes nothing.
use mathlib.Core.Path.{sym}
use Rattle.btree.proofs.Decisions.{says-no}
use Rattle.btree.proofs.Telling.{tells-says}
use Rattle.leaf_rows.specs.Row.{dec_row_law}
use Rattle.leaf_rows.proofs.row_right.Goals as goal

pub returns-then-row-ne0 : goal.returns-then-row-ne0
returns-then-row-ne0 c = sym (says-no (dec_row_law _) (λ l. c.if-row-ne0.true l.whole))

pub returns : goal.returns
returns c = tells-says _ (dec_row_law _) c.keys_right.ensures (λ k. record { whole = c.if-row-ne0.false; keys = k }) (λ l. l.keys)
