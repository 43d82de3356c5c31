-- `hfs_block` meets its contract. Assumes nothing.
use mathlib.Core.Path.{ap, ◌∙◌}
use Rattle.coverings.specs.Answers.{block_numbers}
use Rattle.block_replies.specs.Written.{covering_bytes}
use Rattle.capi.proofs.hfs_block.Goals as goal

pub returns : goal.returns
returns c =
    let a = c.args in
    let e = c.block-mapping.ensures.equal in record {
      numbers = c.block_numbers.ensures ∙ ap block_numbers e;
      bytes = c.covering_bytes.ensures ∙ ap (covering_bytes a.catalog.now a.extents.now) e;
      catalog_leaves = c.block-mapping.ensures.catalog_leaves;
      extents_leaves = c.block-mapping.ensures.extents_leaves;
    }
