-- `plan::leaves_for` meets its contract. Assumes nothing.
use native.Mathlib.Omega.{arith}
use Rattle.shape.proofs.Shape.{leaf-nodes}
use Rattle.tree_writer.proofs.plan.leaves_for.Goals as goal

pub returns : goal.returns
returns c = (omega (arith, leaf-nodes c.args.records), omega arith)
