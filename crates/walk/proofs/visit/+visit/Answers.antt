-- The proof of the cycle of calls {visit}. Its measure is `below`. The loop's invariant: the steps along the entries left, from the bits and
-- the state that are there, give what those along all entries below the node give from those that the loop began with. Assumes nothing.
use native.Mathlib.Omega.{arith}
use mathlib.Core.Path.{◌≡◌, sym, ap, ◌∙◌}
use Prim.Native.Nat.{ℕ, ◌+◌, ◌-◌}
use Rattle.btree.specs.Lists.{span}
use Rattle.btree.specs.Header.{view_of}
use Rattle.btree.specs.Walk.{kid}
use Rattle.formats.specs.Format.{view}
use Rattle.order.specs.Bound.{bound}
use Rattle.step.specs.State.{State, steps}
use Rattle.step.specs.State.State.{going}
use Rattle.leaf_run.proofs.Going.{ran-fits}
use Rattle.std.proofs.lemmas.Result.{err_from_is_err_and}
use Rattle.walk.specs.Visit.{entries_at}
use Rattle.walk.proofs.Steps.{steps-first, steps-stopped, steps-leaf, steps_index, kids-end, kids-on}
use Rattle.walk.proofs.visit.+visit.Goals as goal
use Rattle.walk.proofs.visit.+visit.Goals.{At-loop-i, After-ran}

-- what the loop is to give is what the visit is to give
whole : (t : ℕ) (c : At-loop-i t) → let a = c.args in
    steps (view a.form a.image.now) (going c.stepped.new.bits c.stepped.new.w) (span 0 c.count_of-c.result (kid (view a.form a.image.now) (a.below - 1) a.e.level (bound a.form a.image.now a.e.high) a.e.node))
    ≡ steps (view a.form a.image.now) (going a.bits.now a.w.now) (entries_at a.form a.image.now a.below a.e)
unfolding view_of
whole t c =
    let a = c.args in
    let v = view a.form a.image.now in
    ap (λ (k : ℕ). steps v (going c.stepped.new.bits c.stepped.new.w) (span 0 k (kid v (a.below - 1) a.e.level (bound a.form a.image.now a.e.high) a.e.node))) c.count_of-c.ensures.0
    ∙ ap (λ (x : State). steps v x (span 0 (v.count a.e.node) (kid v (a.below - 1) a.e.level (bound a.form a.image.now a.e.high) a.e.node))) c.in_ok-stepped.ensures.is
    ∙ sym (steps_index v (going a.bits.now a.w.now) a.below a.e.level a.e.from (bound a.form a.image.now a.e.low) (bound a.form a.image.now a.e.high) a.e.node c.if-below-eq0.false)

-- the same after a run
run-on : (t : ℕ) (c : After-ran t) → let a = c.args in let r = c.leaf_run-run in
    steps (view a.form a.image.now) (going r.new.bits c.ran.result)
    (span (c.loop-i.i + r.result.count) (c.count_of-c.result - (c.loop-i.i + r.result.count)) (kid (view a.form a.image.now) (a.below - 1) a.e.level (bound a.form a.image.now a.e.high) a.e.node))
    ≡ steps (view a.form a.image.now) (going c.stepped.new.bits c.stepped.new.w) (span 0 c.count_of-c.result (kid (view a.form a.image.now) (a.below - 1) a.e.level (bound a.form a.image.now a.e.high) a.e.node))
run-on t c = rw c.ran.ensures (sym c.leaf_run-run.ensures.is ∙ c.loop-i.invariant.1)

pub returns-in_err-stepped : goal.returns-in_err-stepped
returns-in_err-stepped t c =
    let p = err_from_is_err_and c.from_residual.result c.from_residual.ensures.1 in
    rw (p.1, p.2) (record { is = steps-first _ _ _ _ _ _ _ _ _ _ _ c.in_err-stepped.ensures.is; small = c.in_err-stepped.ensures.small })

pub returns-then-below-eq0 : goal.returns-then-below-eq0
returns-then-below-eq0 t c =
    let e = c.in_ok-stepped.ensures in
    record { is = e.is ∙ sym (steps-leaf _ _ _ _ _ _ _ _ c.if-below-eq0.true); small = e.small }

pub leaf_run-run-requires : goal.leaf_run-run-requires
unfolding view_of
leaf_run-run-requires t c =
    let p = c.requires in
    let q = p.walkable in
    record {
      walkable = record { fair = q.fair; few = q.few; whole = q.whole; room = omega (arith, q.room, c.loop-i.auto.bits, c.stepped.auto.bits); shallow = q.shallow };
      levels = p.levels;
      index = omega (arith, c.if-below-eq0.false);
      count = c.count_of-c.ensures.0;
      upto = c.loop-i.invariant.0;
      high_place = c.args.e.high_place;
      small = c.loop-i.invariant.2;
    }

pub ran-requires : goal.ran-requires
ran-requires t c =
    let p = c.requires in
    ran-fits _ _ _ _ (omega (arith, p.levels, p.walkable.shallow, c.if-below-eq0.false)) c.leaf_run-run.ensures.small

pub returns-then-i-c : goal.returns-then-i-c
returns-then-i-c t c =
    let s = goal.at.returns-then-i-c t c in
    record {
      is = sym (kids-end _ _ _ _ _ c.if-i-c.true) ∙ run-on t s.After-ran ∙ whole t s.At-loop-i;
      small = rw c.ran.ensures c.leaf_run-run.ensures.small;
    }

pub pointer_at-p-requires : goal.pointer_at-p-requires
unfolding view_of
pointer_at-p-requires t c =
    let p = c.requires in
    (c.if-i-c.false, c.count_of-c.ensures.0, omega (arith, p.levels, p.walkable.shallow, c.if-below-eq0.false))

pub returns-in_err-visit : goal.returns-in_err-visit
returns-in_err-visit t c =
    let s = goal.at.returns-in_err-visit t c in
    let p = err_from_is_err_and c.from_residual-in_err-visit.result c.from_residual-in_err-visit.ensures.1 in
    rw (p.1, p.2)
    (record {
      is =
          sym (steps-stopped _ _ _ _ _) ∙ sym (kids-on _ _ (c.args.below - 1) c.args.e _ _ _ _ _ c.if-i-c.false c.pointer_at-p.ensures c.in_err-visit.ensures.is)
          ∙ run-on t s.After-ran ∙ whole t s.At-loop-i;
      small = c.in_err-visit.ensures.small;
    })

pub loop-i-preserved : goal.loop-i-preserved
loop-i-preserved t c = (
  omega (arith, c.if-i-c.false),
  sym (kids-on _ _ (c.args.below - 1) c.args.e _ _ _ _ _ c.if-i-c.false c.pointer_at-p.ensures c.in_ok-visit.ensures.is) ∙ run-on t (goal.at.loop-i-preserved t c).After-ran,
  c.in_ok-visit.ensures.small,
)

pub returns : goal.returns
returns t c =
    record { is = sym (kids-end _ _ (going c.loop-i.bits c.loop-i.w) _ _ c.loop-i-test.false) ∙ c.loop-i.invariant.1 ∙ whole t (goal.at.returns t c).At-loop-i; small = c.loop-i.invariant.2 }
