-- `plan::planned` meets its contract. Assumes nothing.
use mathlib.Core.Path.{◌≡◌, sym, ap, ◌∙◌}
use Prim.Native.Nat.{◌+◌, ◌-◌}
use native.Mathlib.Omega.{arith}
use Rattle.shape.specs.Shape.{levels_above}
use Rattle.shape.proofs.Shape.{start_first}
use Rattle.tree_writer.proofs.Planned.{levels-from, above_on, above-single, above-none, plan-none, plan-some, next-nodes, next_start}
use Rattle.tree_writer.proofs.plan.planned.Goals as goal

pub returns-then-records-eq0 : goal.returns-then-records-eq0
returns-then-records-eq0 c = plan-none _ _ c.if-records-eq0.true

pub loop-depth-init : goal.loop-depth-init
loop-depth-init c =
    let n = c.leaves_for-n.ensures in record {
      width = n.0;
      begin = sym (start_first _ _);
      above = ap (λ x. 1 + levels_above 7 x) n.0 ∙ levels-from c.args.records (omega (arith, c.if-records-eq0.false));
      narrow = n.1;
      small = omega (arith, c.requires);
    }

pub returns-then-n-le1 : goal.returns-then-n-le1
returns-then-n-le1 c =
    let l = c.loop-depth in
    plan-some _ _ l.depth l.root l.n (omega arith) (omega (arith, above-single (8 - l.depth) l.n (omega arith))) l.invariant.width l.invariant.begin

pub loop-depth-preserved : goal.loop-depth-preserved
loop-depth-preserved c =
    let l = c.loop-depth in record {
      width = next-nodes _ l.depth l.n _ (omega arith) l.invariant.width (omega arith);
      begin = next_start _ _ l.depth l.n l.root (omega arith) l.invariant.width l.invariant.begin;
      above = sym (above_on l.depth l.n _ c.loop-depth-test.true (omega arith) (omega arith)) ∙ l.invariant.above;
      narrow = omega arith;
      small = omega arith;
    }

pub returns : goal.returns
returns c =
    let l = c.loop-depth in
    let z : l.depth ≡ 8 = omega arith in
    let i = rw z at l.invariant in
    plan-some _ _ 8 l.root l.n (omega arith) (omega (arith, l.invariant.above, above-none l.depth l.n c.loop-depth-test.false)) i.width i.begin
