-- `map_nodes` meets its contract. Assumes nothing.
use mathlib.Core.Path.{ap, ◌∙◌}
use native.Mathlib.Omega.{arith}
use Rattle.put.specs.Put.{put}
use Rattle.put.proofs.Laws.{turn, finish}
use Rattle.node_writer.proofs.Spans.{span-on, span-end}
use Rattle.map_writer.proofs.Steps.{maps-long}
use Rattle.map_writer.proofs.map_nodes.Goals as goal

pub loop-i-preserved : goal.loop-i-preserved
loop-i-preserved c =
    let l = c.loop-i in record {
      bytes = turn _ c.map_node-a.ensures ∙ ap (put l.target l.a) (span-on _ _ l.i c.loop-i-test.true) ∙ l.invariant.bytes;
      place = omega arith;
    }

pub returns : goal.returns
returns c =
    let l = c.loop-i in
    finish l.invariant.bytes (span-end _ _ l.i c.loop-i-test.false) (omega arith) (maps-long c.args.maps c.args.used)
