-- `map_part` meets its contract. Assumes nothing.
use mathlib.Core.Path.{sym, ap, ◌∙◌}
use native.Mathlib.Omega.{arith}
use Rattle.put.specs.Put.{put}
use Rattle.put.proofs.Laws.{turn, finish}
use Rattle.map_writer.proofs.Steps.{part-on, part_end, part-long}
use Rattle.map_writer.proofs.map_part.Goals as goal

pub loop-k-preserved : goal.loop-k-preserved
loop-k-preserved c =
    let l = c.loop-k in record {
      bytes = turn _ c.byte-a.ensures ∙ rw c.map_byte.ensures (ap (put l.target l.a) (sym (part-on _ l.k _ c.loop-k-test.true))) ∙ l.invariant.bytes;
      place = omega arith;
    }

pub returns : goal.returns
returns c =
    let l = c.loop-k in
    finish l.invariant.bytes (part_end _ l.k _ c.loop-k-test.false) (omega arith) (part-long _ _ _)
