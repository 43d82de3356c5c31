-- `node_end` meets its contract. Assumes nothing.
use mathlib.Core.Path.{◌≡◌}
use Prim.Native.Nat.{suc, ◌+◌}
use native.Mathlib.Omega.{arith}
use Rattle.put.proofs.Laws.{then, sized}
use Rattle.node_writer.specs.Parts.{framed}
use Rattle.node_writer.proofs.node_end.Goals as goal

pub returns : goal.returns
unfolding framed
returns c = let z : suc c.args.count ≡ c.args.count + 1 = omega arith in rw z (sized (omega arith) (then c.zeros-a.ensures c.offset_words.ensures))
