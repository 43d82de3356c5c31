-- `hfs_lookup_many` meets its contract. Assumes nothing.
use mathlib.Core.Path.{ap, ◌∙◌}
use Rattle.btree.specs.Numbers.{reply_numbers}
use Rattle.capi.proofs.hfs_lookup_many.Goals as goal

pub returns : goal.returns
returns c =
    let t = c.lookup_many in record {
      numbers = c.verdict_numbers.ensures ∙ ap reply_numbers (c.verdict.ensures ∙ t.ensures.equal);
      written = t.ensures.written;
      leaves = rw t.ensures.equal at t.ensures.leaves;
    }
