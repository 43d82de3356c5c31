-- `whole::lay` meets its contract. Assumes nothing.
use mathlib.Core.Path.{◌≡◌, ◌∙◌}
use Prim.Native.Nat.{◌+◌, ◌-◌, ◌*◌}
use native.Mathlib.Omega.{arith}
use lib.ListN.{length}
use Rattle.put.proofs.Laws.{then, put_all}
use Rattle.tree_writer.proofs.Assembled.{leaves-most, records-fit, end_is, front-in, tree-in, all-is}
use Rattle.tree_writer.proofs.whole.lay.Goals as goal
use Rattle.tree_writer.proofs.whole.lay.Goals.{After-lay_tree-b}

-- where the tree ends
ends : (c : After-lay_tree-b) → c.lay_tree-b.result ≡ 512 * c.args.used
ends c =
    let l = c.leaves_for-leaves in
    let e = end_is c.args.row.now _ _ _ _ _ c.requires l.result l.ensures.0 in
    omega (arith, c.lay_tree-b.ensures.next, c.lay_front-a.ensures.next)

-- the target keeps its length
kept : (c : After-lay_tree-b) → length c.lay_tree-b.new.target ≡ length c.args.target.now
kept c = c.lay_tree-b.auto.target ∙ c.lay_front-a.auto.target

pub overflow_cast-leaves : goal.overflow_cast-leaves
overflow_cast-leaves c = let l = leaves-most c.args.row.now _ _ _ _ _ c.requires in omega (arith, c.leaves_for-leaves.ensures.0)

pub overflow_cast-records : goal.overflow_cast-records
overflow_cast-records c = let l = records-fit c.args.row.now _ _ _ _ _ c.requires in omega arith

pub lay_front-a-requires : goal.lay_front-a-requires
lay_front-a-requires c = front-in c.args.row.now _ _ _ _ _ c.requires _ c.leaves_for-leaves.ensures.0

pub lay_tree-b-requires : goal.lay_tree-b-requires
lay_tree-b-requires c =
    let a = c.lay_front-a in
    let z : a.result ≡ 512 + 512 * c.args.maps = omega (arith, a.ensures.next) in
    rw (z, a.auto.target) (tree-in c.args.row.now _ _ _ _ _ c.requires _ c.leaves_for-leaves.ensures.0)

pub overflow_sub-rest : goal.overflow_sub-rest
overflow_sub-rest c = omega (arith, ends (goal.at.overflow_sub-rest c).After-lay_tree-b, kept (goal.at.overflow_sub-rest c).After-lay_tree-b, c.requires.fits)

pub zeros-requires : goal.zeros-requires
zeros-requires c = omega (arith, ends (goal.at.zeros-requires c).After-lay_tree-b, kept (goal.at.zeros-requires c).After-lay_tree-b, c.requires.fits)

pub returns : goal.returns
returns c =
    let l = c.leaves_for-leaves in
    let w = then c.lay_front-a.ensures (then c.lay_tree-b.ensures c.zeros.ensures) in
    w.bytes ∙ put_all _ c.args.target.now (w.long ∙ omega (arith, ends (goal.at.returns c).After-lay_tree-b, kept (goal.at.returns c).After-lay_tree-b, c.requires.fits))
    ∙ all-is c.args.row.now _ _ _ _ _ c.requires l.result (length c.lay_tree-b.new.target - c.lay_tree-b.result) l.ensures.0 (omega (arith, ends (goal.at.returns c).After-lay_tree-b, kept (goal.at.returns c).After-lay_tree-b))
