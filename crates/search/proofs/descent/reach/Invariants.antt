-- `descent::reach` meets its contract. Assumes nothing.
use Rattle.formats.specs.Asked.{asked_rank}
use Rattle.formats.specs.Format.{view}
use Rattle.search.proofs.Stored.{Stored}
use Rattle.search.proofs.descent.reach.Given as goal

abbrev pub invariant-loop-len : goal.invariant-loop-len
invariant-loop-len l = Stored (view l.form l.image) (asked_rank l.form l.key l.name) l.depth l.nodes l.node l.len l.compared
