-- `copy` meets its contract. Assumes nothing.
use native.Mathlib.Nat.{add-zero}
use mathlib.Core.Path.{refl, sym, ap, ◌∙◌}
use Prim.Native.Nat.{◌+◌}
use native.Mathlib.Omega.{arith}
use lib.ListN.{length-set, drop_of_length-le}
use Rattle.put.specs.Put.{put}
use Rattle.put.proofs.Laws.{put-none, copy-on}
use Rattle.put.proofs.copy.Goals as goal

pub loop-i-init : goal.loop-i-init
loop-i-init c = (rw add-zero refl, refl)

pub bounds-target-at : goal.bounds-target-at
bounds-target-at c = omega (arith, c.loop-i.invariant.1)

pub loop-i-preserved : goal.loop-i-preserved
loop-i-preserved c = let l = c.loop-i in (sym (copy-on l.target _ _ l.i (omega arith)) ∙ l.invariant.0, simp length-set l.invariant.1)

pub shape_of-target : goal.shape_of-target
shape_of-target c = c.loop-i.invariant.1

pub returns : goal.returns
returns c =
    let l = c.loop-i in
    let a = c.args in
    record { bytes = sym (put-none l.target (a.at + l.i)) ∙ ap (put l.target (a.at + l.i)) (sym (drop_of_length-le a.s.now c.loop-i-test.false)) ∙ l.invariant.0; next = refl; long = refl }
