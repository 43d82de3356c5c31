-- `index_levels` meets its contract. Assumes nothing.
use mathlib.Core.Path.{◌≡◌, ap, ◌∙◌}
use Prim.Native.Nat.{suc, ◌+◌, ◌-◌, ◌/◌}
use native.Mathlib.Omega.{arith}
use lib.ListN.{length}
use Rattle.put.specs.Put.{put}
use Rattle.put.proofs.Laws.{turn, finish}
use Rattle.level_writer.specs.Parts.{LevelIn}
use Rattle.level_writer.proofs.Levels.{levels-on, levels-end, size-on, size-end, this-level, next-levels, levels-long}
use Rattle.level_writer.proofs.index_levels.Goals as goal
use Rattle.level_writer.proofs.index_levels.Goals.{In-loop-number}

-- the levels that are left are this one and those above it
left : (c : In-loop-number) → c.args.levels + 2 - c.loop-number.number ≡ suc (c.args.levels + 2 - (c.loop-number.number + 1))
left c = omega arith

-- the level of a turn is in its place
here : (c : In-loop-number) → let l = c.loop-number in LevelIn (length c.args.target.now) l.a (length c.args.row.now) (l.lower + l.width) ((l.width + 34) / 35) l.lower l.width l.step
here c = this-level _ _ (left c) _ _ _ _ _ _ c.loop-number.invariant.room

pub overflow_add-first : goal.overflow_add-first
overflow_add-first c = let h = here c in omega (arith, h.children)

pub index_level-a-requires : goal.index_level-a-requires
index_level-a-requires c =
    let n : c.div_ceil-nodes.result ≡ (c.loop-number.width + 34) / 35 = omega arith in
    rw (n, c.loop-number.auto.target) (here (goal.at.index_level-a-requires c).In-loop-number)

pub overflow_mul-step : goal.overflow_mul-step
overflow_mul-step c = let h = here (goal.at.overflow_mul-step c).In-loop-number in omega (arith, h.near)

pub loop-number-preserved : goal.loop-number-preserved
loop-number-preserved c =
    let l = c.loop-number in
    let n : c.div_ceil-nodes.result ≡ (l.width + 34) / 35 = omega arith in
    let p = rw n at c.index_level-a.ensures in
    let e = left (goal.at.loop-number-preserved c).In-loop-number in
    rw n (record {
      bytes = turn _ p ∙ ap (put l.target l.a) (levels-on _ _ e _ l.number l.lower l.width l.step) ∙ l.invariant.bytes;
      place = omega (arith, p.next, l.invariant.place, size-on _ _ e l.width);
      room = rw p.next (next-levels _ _ e _ _ _ _ _ _ l.invariant.room);
    })

pub returns : goal.returns
returns c =
    let l = c.loop-number in
    let z : c.args.levels + 2 - l.number ≡ 0 = omega arith in
    finish l.invariant.bytes (levels-end _ _ l.number l.lower l.width l.step z) (omega (arith, l.invariant.place, size-end _ l.width z)) (levels-long _ _ _ _ _ _ _ _ c.requires.1)
