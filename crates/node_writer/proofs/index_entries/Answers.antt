-- `index_entries` meets its contract. Assumes nothing.
use mathlib.Core.Path.{sym, ap, ◌∙◌}
use native.Mathlib.Omega.{arith}
use Rattle.put.specs.Put.{put}
use Rattle.put.proofs.Laws.{turn, then, finish}
use Rattle.node_writer.proofs.Steps.{indexed-on, indexed-end, indexed-long}
use Rattle.node_writer.proofs.index_entries.Goals as goal

pub loop-i-preserved : goal.loop-i-preserved
loop-i-preserved c =
    let l = c.loop-i in
    let s = c.args.children in record {
      bytes =
          turn _ (then c.key_part-b.ensures c.number32-a.ensures)
          ∙ ap (put l.target l.a) (sym (indexed-on s.count l.i s.from s.step s.child c.args.row.now c.loop-i-test.true))
          ∙ l.invariant.bytes;
      place = omega arith;
    }

pub returns : goal.returns
returns c =
    let l = c.loop-i in
    finish l.invariant.bytes (indexed-end _ l.i _ _ _ _ c.loop-i-test.false) (omega arith) (indexed-long _ _ _ _ _ c.requires.2.reach)
