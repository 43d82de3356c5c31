-- `stepped` meets its contract. Assumes nothing.
use Prim.Native.Nat.{◌/◌, ◌<◌}
use native.Mathlib.Omega.{arith}
use mathlib.Core.Path.{◌≡◌, refl, sym, ap, ◌∙◌}
use lib.ListN.{length}
use Rattle.frame.proofs.Forms.{node-inside}
use Rattle.formats.specs.Format.{view}
use Rattle.step.specs.State.{fresh_in, last_at, entry}
use Rattle.btree.proofs.Clean.{test_zero}
use Rattle.btree.proofs.Faults.{some_number}
use Rattle.btree.specs.Walk.{fine, test}
use Rattle.btree.specs.Header.{view_of}
use Rattle.step.proofs.Room.{small-kept, records-fit, nodes-fit}
use Rattle.step.proofs.Lands.{step-stops, step_keeps}
use Rattle.step.proofs.Links.{leaf-test}
use Rattle.step.proofs.Fresh.{Free, fresh-free}
use Rattle.btree.specs.declared.Verdict.{Verdict}
use Rattle.std.proofs.lemmas.Result.{err_from_is_err_and}
use Rattle.step.proofs.stepped.Goals as goal
use Rattle.step.proofs.stepped.Goals.{After-is_fresh-fresh}

-- what the tests find, in terms of the walk
tests : (c : After-is_fresh-fresh) (t : Verdict) → let a = c.args in let v = view a.form a.image.now in
    t ≡ test v c.is_fresh-fresh.result (last_at a.w.now a.e.level) (entry a.form a.image.now a.e) → t ≡ test v (fresh_in v.total a.bits.now a.e.node) (last_at a.w.now a.e.level) (entry a.form a.image.now a.e)
unfolding view_of
tests c t e = e ∙ rw (c.is_fresh-fresh.ensures, c.be32.ensures)

-- a node that passed is fresh
fresh : (c : After-is_fresh-fresh) → let a = c.args in let v = view a.form a.image.now in
    fine ≡ test v c.is_fresh-fresh.result (last_at a.w.now a.e.level) (entry a.form a.image.now a.e) → Free v.total a.bits.now a.e.node
fresh c e = let a = c.args in let v = view a.form a.image.now in fresh-free v.total a.bits.now a.e.node (test_zero v _ _ _ (sym (ap (λ (t : Verdict). t.number) (tests c fine e)))).0

pub tested-requires : goal.tested-requires
unfolding view_of
tested-requires c e =
    let p = c.requires.walkable in
    let t = c.be32 in
    let q = fresh-free t.result c.args.bits.now c.args.e.node (sym c.is_fresh-fresh.ensures ∙ e) in
    record { fair = p.fair; inside = node-inside c.args.form c.args.e.node _ _ (omega (arith, q.range, t.ensures)) p.whole }

pub returns-in_err-tested : goal.returns-in_err-tested
returns-in_err-tested c =
    let p = err_from_is_err_and c.from_residual.result c.from_residual.ensures.1 in
    rw (p.1, p.2)
    (record { is = sym (step-stops _ _ _ _ _ (tests (goal.at.returns-in_err-tested c).After-is_fresh-fresh _ c.in_err-tested.ensures) (λ z. let n = some_number c.in_err-tested.field-0.0.refusal in omega arith)); small = c.requires.small })

pub kept_at-requires : goal.kept_at-requires
kept_at-requires c =
    let r = c.requires in
    let f = fresh (goal.at.kept_at-requires c).After-is_fresh-fresh c.in_ok-tested.ensures in
    let room : c.args.e.node / 8 < length c.args.bits.now = omega (arith, f.range, r.walkable.room) in
    record {
      level = c.args.e.shallow;
      records = records-fit c.args.bits.now c.args.w.now c.args.e.node (omega (arith, f.range, r.walkable.few)) room f.unmarked _ c.count_of-c.ensures.1 r.small;
      nodes = nodes-fit _ _ r.small;
    }

pub returns : goal.returns
unfolding view_of
returns c =
    let a = c.args in
    let r = c.requires in
    let k = c.count_of-c.ensures in
    let m = c.mark.ensures in
    let s = (goal.at.returns c).After-is_fresh-fresh in
    let f = fresh s c.in_ok-tested.ensures in
    let room : a.e.node / 8 < length a.bits.now = omega (arith, f.range, r.walkable.room) in
    let leaf = leaf-test a.e.level a.below (view a.form a.image.now).depth r.levels in
    record {
      is = rw (c.kept_at.ensures, m, leaf, k.0) (sym (step_keeps _ _ _ _ _ (tests s fine c.in_ok-tested.ensures) refl));
      small = rw (c.kept_at.ensures, m, leaf) (small-kept a.bits.now a.w.now a.e.node (omega (arith, f.range, r.walkable.few)) room f.unmarked _ k.1 r.small a.e.level _);
    }
