-- `records::chain_right` meets its contract. Assumes nothing.
use native.Mathlib.Omega.{arith}
use Rattle.catalog_nodes.proofs.Sizes.{max-most}
use Rattle.catalog_nodes.proofs.Walked.{least-inside}
use Rattle.catalog_nodes.proofs.records.chain_right.Goals as goal

pub overflow_sub-end : goal.overflow_sub-end
overflow_sub-end c = omega (arith, max-most)

pub returns-then-at-end : goal.returns-then-at-end
returns-then-at-end c = grind (arith, max-most, least-inside)

pub word_in-next-requires : goal.word_in-next-requires
word_in-next-requires c = grind (arith, max-most)

pub returns : goal.returns
returns c = grind (arith, max-most)
