-- `leaves::records_after` meets its contract. Assumes nothing.
use mathlib.Core.Bool.{true}
use mathlib.Core.Path.{◌≡◌, sym, ap, ◌∙◌}
use Rattle.image.specs.Bytes.{be32_at}
use Rattle.btree.specs.Header.{total_of, view_of}
use Rattle.frame.specs.Form.{hfs}
use Rattle.frame.proofs.Forms.{node-inside}
use native.Mathlib.Omega.{arith}
use Rattle.step.specs.State.{fresh_in}
use Rattle.step.proofs.Fresh.{fresh-free}
use Rattle.leaf_run.specs.Run.{Surely}
use Rattle.leaf_run.proofs.Taken.{on-some}
use Rattle.leaf_run.proofs.leaves.records_after.Goals as goal
use Rattle.leaf_run.proofs.leaves.records_after.Goals.{Else-not-is_fresh}

fresh : (c : Else-not-is_fresh) → let a = c.args in fresh_in (total_of a.image.now) a.bits.now a.node ≡ true
fresh c = sym (c.is_fresh.ensures ∙ rw c.requires.2) ∙ c.if-not-is_fresh.false

pub records_of_passing-requires : goal.records_of_passing-requires
unfolding view_of
records_of_passing-requires c =
    let a = c.args in
    let f = fresh-free (total_of a.image.now) a.bits.now a.node (fresh (goal.at.records_of_passing-requires c).Else-not-is_fresh) in
    record { fair = c.requires.0.fair; inside = node-inside hfs a.node _ _ f.range c.requires.0.whole }

pub returns-clause-surely : goal.returns-clause-surely
returns-clause-surely c =
    let a = c.args in
    on-some {B = Surely a.image.now a.bits.now a.p a.node a.low a.top} _
    (λ z. record { fresh = fresh (goal.at.returns-clause-surely c).Else-not-is_fresh; passes = z; leads = omega (arith, ap (be32_at _) (sym c.hfs_start.ensures.0) ∙ sym c.be32_in.ensures) })
    c.records_of_passing.ensures.passes
