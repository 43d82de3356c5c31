-- `leaf_level` meets its contract. Assumes nothing.
use mathlib.Core.Path.{ap, ◌∙◌}
use native.Mathlib.Omega.{arith}
use Rattle.put.specs.Put.{put}
use Rattle.put.proofs.Laws.{turn, finish}
use Rattle.node_writer.proofs.Spans.{span-end}
use Rattle.level_writer.proofs.LeafNodes.{leaves-on, leaves-long, part-fits}
use Rattle.level_writer.proofs.leaf_level.Goals as goal

pub leaf_node-a-requires : goal.leaf_node-a-requires
leaf_node-a-requires c =
    let f = part-fits c.args.row.now c.loop-k.k c.end_of-to.result c.requires.whole c.end_of-to.ensures.2 in
    (f.0, f.1, omega (arith, c.requires.room))

pub loop-k-preserved : goal.loop-k-preserved
loop-k-preserved c =
    let l = c.loop-k in record {
      bytes =
          turn _ c.leaf_node-a.ensures
          ∙ ap (put l.target l.a) (leaves-on c.args.row.now c.args.first c.args.nodes l.k c.end_of-to.result c.link-forward.result c.back_link-back.result
          c.requires.whole c.requires.some c.requires.nodes c.loop-k-test.true c.end_of-to.ensures.2 c.link-forward.ensures c.back_link-back.ensures)
          ∙ l.invariant.bytes;
      place = omega arith;
    }

pub returns : goal.returns
returns c =
    let l = c.loop-k in
    finish l.invariant.bytes (span-end _ _ l.k c.loop-k-test.false) (omega arith) (leaves-long _ _ _ c.requires.whole)
