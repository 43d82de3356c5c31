-- `closing::closing_tests` meets its contract: what is left of the levels gives what all give. Assumes nothing.
use Rattle.walk.proofs.Ends.{rest}
use Rattle.btree.specs.Walk.{closing, ends}
use Rattle.step.specs.State.{last_at}
use Rattle.formats.specs.Format.{view}
use Prim.Native.Nat.{◌-◌}
use mathlib.Core.Path.{◌≡◌}
use Rattle.walk.proofs.closing.closing_tests.Given as goal

abbrev pub invariant-loop-d : goal.invariant-loop-d
invariant-loop-d l = closing (view l.form l.image) (last_at l.w) l.w.first l.w.records ≡ ends (view l.form l.image) (last_at l.w) l.d (l.depth - l.d) (rest (view l.form l.image) l.w)
