-- `zeros` meets its contract. Assumes nothing.
use native.Mathlib.Omega.{arith}
use lib.ListN.{length-replicate}
use borrow.Author.Rules.{rules}
use Rattle.put.proofs.Laws.{part}
use Rattle.put.proofs.zeros.Goals as goal

pub returns : goal.returns
returns c = part _ c.args.target.now _ c.args.at _ c.args.n (omega arith) (search rules) (length-replicate c.args.n 0) c.requires
