-- `seen_in` meets its contract. Assumes nothing.
use mathlib.Core.Path.{sym, ap, ◌∙◌}
use Rattle.btree.specs.Hits.{hit_of}
use Rattle.scan.proofs.Looking.{seen-not, seen-whole}
use Rattle.scan.proofs.seen_in.Goals as goal
use Rattle.scan.proofs.seen_in.Goals.{then-is_outside-via-then-is_outside, then-is_outside-via-else-is_outside+then-not-is_whole}

pub returns-then-is_outside : goal.returns-then-is_outside
returns-then-is_outside c =
    elim c.then-is_outside.branch [
      | then-is_outside-via-then-is_outside w ↦ sym (ap hit_of (c.is_outside.ensures w.if-is_outside.true _))
      | then-is_outside-via-else-is_outside+then-not-is_whole w ↦ sym (ap hit_of (seen-not _ _ _ _ (sym w.is_whole.ensures ∙ w.if-not-is_whole.true)))
    ]

pub returns : goal.returns
returns c = c.record_with.ensures ∙ sym (ap hit_of (seen-whole _ _ _ _ (sym c.is_whole.ensures ∙ c.if-not-is_whole.false)))
