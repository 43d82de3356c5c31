-- `node::start_of` meets its contract. Assumes nothing.
use mathlib.Core.Path.{ap}
use native.Mathlib.Omega.{arith}
use Prim.Native.Nat.{ℕ, ◌*◌}
use Rattle.frame.proofs.Forms.{start_small}
use Rattle.frame.proofs.node.start_of.Goals as goal

pub overflow_mul-result : goal.overflow_mul-result
overflow_mul-result c =
    record { fits = let h = start_small c.args.form c.size.ensures.1 c.args.node (omega arith) in rw c.size.ensures.0 (omega arith) }

pub returns : goal.returns
returns c =
    let e = ap (λ (s : ℕ). c.args.node * s) c.size.ensures.0 in
    (e, rw c.size.ensures.0 (start_small c.args.form c.size.ensures.1 c.args.node (omega arith)))
