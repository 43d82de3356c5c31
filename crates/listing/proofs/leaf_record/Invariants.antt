-- `leaf_record` meets its contract: what is left from a node on gives what all rows give from the first leaf. Assumes nothing.
use Rattle.std.proofs.Common.{◌≡◌, ◌-◌}
use Rattle.extents.specs.Reader.{view}
use Rattle.listing.specs.Rows.{leaf_row}
use Rattle.listing.proofs.Rows.{row_from}
use Rattle.listing.proofs.leaf_record.Given as goal

abbrev pub invariant-loop : goal.invariant-loop
invariant-loop l = row_from (view l.image) (l.end - l.counter) l.node l.left ≡ leaf_row l.image l.k
