-- `offset_words` meets its contract. Assumes nothing.
use mathlib.Core.Path.{sym, ap, ◌∙◌}
use Prim.Native.Nat.{◌-◌}
use native.Mathlib.Omega.{arith}
use Rattle.put.specs.Put.{put}
use Rattle.put.proofs.Laws.{turn, last}
use Rattle.laid.specs.Laid.{offsets}
use Rattle.node_writer.proofs.Steps.{offsets-on, offsets-end, offsets-long}
use Rattle.node_writer.proofs.offset_words.Goals as goal

pub loop-k-preserved : goal.loop-k-preserved
loop-k-preserved c =
    let l = c.loop-k in record {
      bytes = turn (offsets c.args.size (l.k - 1)) c.number16-a.ensures ∙ ap (put l.target l.a) (sym (offsets-on c.args.size l.k (omega arith))) ∙ l.invariant.bytes;
      place = omega arith;
    }

-- after the turn for 0
pub returns-2 : goal.returns-2
returns-2 c =
    let l = c.loop-k in
    last (ap (put l.target l.a) (sym (offsets-end _ l.k (omega arith))) ∙ l.invariant.bytes) (omega arith) (offsets-long _ _) c.number16-a.ensures
