-- `hfs_check` meets its contract. Assumes nothing.
use mathlib.Core.Path.{ap, ◌∙◌}
use Rattle.btree.specs.Numbers.{reply_numbers}
use Rattle.capi.proofs.hfs_check.Goals as goal

pub returns : goal.returns
returns c =
    let t = c.check in record {
      numbers = c.verdict_numbers.ensures ∙ ap reply_numbers (c.verdict.ensures ∙ t.ensures.equal);
      leaves = rw t.ensures.equal at t.ensures.leaves;
    }
