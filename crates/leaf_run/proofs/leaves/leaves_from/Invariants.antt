-- `leaves::leaves_from` meets its contract. Assumes nothing.
use Rattle.leaf_run.proofs.Going.{Held}
use Rattle.leaf_run.proofs.leaves.leaves_from.Given as goal

abbrev pub invariant-loop-j : goal.invariant-loop-j
invariant-loop-j l = Held l.image l.initial.bits l.bits l.before l.node l.i l.c l.high l.last l.records l.at l.low l.child l.j
