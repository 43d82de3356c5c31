-- `rows::fill` meets its contract. Assumes nothing.
use mathlib.Core.Path.{◌≡◌}
use Rattle.search.specs.Rows.{result_in}
use Rattle.search.proofs.Filled.{filled_to}
use Rattle.search.proofs.rows.fill.Given as goal

abbrev pub invariant-loop-i : goal.invariant-loop-i
invariant-loop-i l = l.results ≡ filled_to (result_in l.image) l.keys l.initial.results l.i
