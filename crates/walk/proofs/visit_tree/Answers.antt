-- `visit_tree` meets its contract. Assumes nothing.
use Prim.Native.Nat.{ℕ, suc, ◌-◌}
use native.Mathlib.Omega.{arith}
use mathlib.Core.Path.{◌≡◌, sym, ap, ◌∙◌}
use Rattle.btree.specs.Walk.{tree_entries}
use Rattle.btree.specs.Header.{view_of}
use Rattle.step.specs.State.{steps}
use Rattle.step.specs.State.State.{going}
use Rattle.formats.specs.Format.{view}
use Rattle.order.proofs.Bounds.{bound-none}
use Rattle.walk.proofs.visit_tree.Goals as goal

pub returns-then-depth-eq0 : goal.returns-then-depth-eq0
unfolding view_of steps
returns-then-depth-eq0 c =
    let v = view c.args.form c.args.image.now in
    ap (λ (k : ℕ). steps v (going c.args.bits.now c.args.w.now) (tree_entries v k)) (sym c.if-depth-eq0.true ∙ c.be16-depth.ensures.0)

pub visit-requires : goal.visit-requires
unfolding view_of
visit-requires c =
    let n = c.if-depth-eq0.false in
    let d = c.be16-depth.ensures.0 in
    record { walkable = c.requires.0; levels = omega arith; small = c.requires.1 }

pub returns : goal.returns
unfolding view_of
returns c =
    let v = view c.args.form c.args.image.now in
    let e : v.depth ≡ suc (v.depth - 1) = let n = c.if-depth-eq0.false in let d = c.be16-depth.ensures.0 in omega arith in
    c.visit.ensures.is
    ∙ rw (c.be16-depth.ensures.0, c.be32.ensures, bound-none c.args.form c.args.image.now)
    (ap (λ (k : ℕ). steps v (going c.args.bits.now c.args.w.now) (tree_entries v k)) (sym e))
