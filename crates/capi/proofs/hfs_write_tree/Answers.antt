-- `hfs_write_tree` meets its contract. Assumes nothing.
use mathlib.Core.Path.{ap, ◌∙◌}
use Rattle.btree.specs.Numbers.{reply_numbers}
use Rattle.capi.proofs.hfs_write_tree.Goals as goal

pub returns : goal.returns
returns c = let t = c.write_tree in record {
  numbers = c.verdict_numbers.ensures ∙ ap reply_numbers (c.verdict.ensures ∙ t.ensures.equal);
  bytes = t.ensures.written;
}
