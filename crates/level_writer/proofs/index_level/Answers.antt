-- `index_level` meets its contract. Assumes nothing.
use mathlib.Core.Path.{ap, ◌∙◌}
use native.Mathlib.Omega.{arith}
use Rattle.put.specs.Put.{put}
use Rattle.put.proofs.Laws.{turn, finish}
use Rattle.node_writer.proofs.Spans.{span-end}
use Rattle.level_writer.proofs.IndexNodes.{some_left, from-inside, keys-inside, level-on, level-long}
use Rattle.level_writer.proofs.index_level.Goals as goal

pub overflow_sub-level : goal.overflow_sub-level
overflow_sub-level c = omega (arith, some_left c.requires c.loop-k.k c.loop-k-test.true)

pub overflow_mul-k : goal.overflow_mul-k
overflow_mul-k c = omega (arith, from-inside c.requires c.loop-k.k c.loop-k-test.true, c.requires.long)

pub overflow_add-children : goal.overflow_add-children
overflow_add-children c = omega (arith, some_left c.requires c.loop-k.k c.loop-k-test.true, c.requires.children)

pub index_node-a-requires : goal.index_node-a-requires
index_node-a-requires c =
    let p = c.requires in
    let k = c.loop-k.k in
    let u = c.loop-k-test.true in
    let e = c.taken.ensures in
    (omega (arith, p.room), omega (arith, e), omega (arith, some_left p k u, p.children, e), keys-inside p k u _ e)

pub loop-k-preserved : goal.loop-k-preserved
loop-k-preserved c =
    let l = c.loop-k in
    let s = c.args.level in record {
      bytes =
          turn _ c.index_node-a.ensures
          ∙ ap (put l.target l.a) (level-on s.number s.first s.nodes s.child s.children s.step c.args.row.now l.k c.link-forward.result c.back_link-back.result
          c.taken.result c.loop-k-test.true c.taken.ensures c.link-forward.ensures c.back_link-back.ensures)
          ∙ l.invariant.bytes;
      place = omega arith;
    }

pub returns : goal.returns
returns c =
    let l = c.loop-k in
    finish l.invariant.bytes (span-end _ _ l.k c.loop-k-test.false) (omega arith) (level-long c.args.level.number c.args.row.now c.requires)
