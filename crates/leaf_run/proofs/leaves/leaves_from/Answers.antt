-- `leaves::leaves_from` meets its contract. Assumes nothing.
use mathlib.Core.Path.{◌≡◌, refl, ap, ◌∙◌}
use Prim.Native.Nat.{◌+◌, ◌-◌}
use native.Mathlib.Omega.{arith}
use lib.ListN.{length}
use Rattle.image.proofs.Laws.{mark-length}
use Rattle.btree.specs.Header.{view_of}
use Rattle.frame.specs.Form.{hfs}
use Rattle.frame.specs.Inside.{NodeIn}
use Rattle.frame.proofs.Forms.{node-inside}
use Rattle.step.specs.Ready.{Walkable}
use Rattle.step.proofs.Fresh.{fresh-free}
use Rattle.fast_records.proofs.Surely.{bytes-of}
use Rattle.leaf_run.proofs.Taken.{Turn}
use Rattle.leaf_run.proofs.Going.{going_start, going_on}
use Rattle.leaf_run.proofs.leaves.leaves_from.Goals as goal
use Rattle.leaf_run.proofs.leaves.leaves_from.Goals.{At-loop-j, In-Some}

-- the bytes marked keep their number, so that the tree can still be walked
walkable : (c : At-loop-j) → Walkable hfs c.args.image.now c.loop-j.bits
walkable c = let w = c.requires.walkable in record { fair = w.fair; few = w.few; whole = w.whole; room = omega (arith, w.room, c.loop-j.invariant.long); shallow = w.shallow }

inside : (c : In-Some) → NodeIn hfs c.args.image.now c.loop-j.child
unfolding view_of
inside c =
    let w = c.requires.walkable in
    let f = fresh-free _ _ _ c.in-Some.ensures.surely.fresh in
    record { fair = w.fair; inside = node-inside hfs _ _ _ f.range w.whole }

turn_at : (c : In-Some) → let a = c.args in let l = c.loop-j in Turn a.image.now l.bits l.last a.node l.j a.c a.high l.at l.low l.child c.be64_in-next.result c.top_after-top.result c.top_of-bound.result
turn_at c =
    let r = c.requires in
    record {
      bytes = bytes-of _ c.type_inv.image;
      index = r.readable.index;
      count = r.count;
      more = c.loop-j-test.true;
      place = c.loop-j.invariant.place;
      low = c.loop-j.invariant.low;
      points = c.loop-j.invariant.points;
      after = c.be64_in-next.ensures;
      top_next = c.top_after-top.ensures.0;
      top_end = c.top_after-top.ensures.1;
      ends = c.top_of-bound.ensures;
      surely = c.in-Some.ensures.surely;
    }

pub loop-j-init : goal.loop-j-init
loop-j-init c =
    let r = c.requires in
    record {
      place = omega (arith, c.hfs_start.ensures.0);
      low = c.be64_in-low.ensures;
      points = c.be32_in-child.ensures;
      last_in = r.readable.before_in;
      few = omega arith;
      long = refl;
      going = λ w d e g. going_start _ _ _ _ _ _ _ w d g;
    }

pub records_after-requires : goal.records_after-requires
records_after-requires c =
    (walkable (goal.at.records_after-requires c).At-loop-j, c.loop-j.invariant.last_in, c.be32_in-total.ensures)

pub loop-j-preserved : goal.loop-j-preserved
loop-j-preserved c =
    let h = c.loop-j.invariant in
    let j = c.loop-j.j in
    let i = c.args.i in
    let n = c.in-Some.ensures.count in
    let z : j + 1 - i ≡ j - i + 1 = omega (arith, c.loop-j.auto.j) in
    record {
      place = omega (arith, h.place);
      low = c.be64_in-next.ensures;
      points = c.be32_in-child-in-loop-j.ensures;
      last_in = inside (goal.at.loop-j-preserved c).In-Some;
      few = omega (arith, h.few, c.loop-j.auto.j, n.1);
      long = ap length c.mark.ensures ∙ mark-length _ _ ∙ h.long;
      going = λ w d e g.
          rw (c.mark.ensures, z)
          (going_on _ _ _ _ _ _ _ w d g _ _ _ _ _ _ _ _ _ (turn_at (goal.at.loop-j-preserved c).In-Some) e (walkable (goal.at.loop-j-preserved c).At-loop-j) (j - i) _ _ n.0 n.1 (h.going w d e g));
    }
