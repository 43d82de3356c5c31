-- `no_tree` meets its contract: it is true exactly where all four fields are 0. Assumes nothing.
use Rattle.std.proofs.Common.{arith}
use Rattle.btree.specs.Tests.{dec_no_tree}
use Rattle.btree.proofs.Faults.{says_if}
use Rattle.header.proofs.no_tree.Goals as goal

pub returns-then-be32-eq0-3 : goal.returns-then-be32-eq0-3
returns-then-be32-eq0-3 c =
    says_if (dec_no_tree _) _
    (λ e. record { root = grind arith; leaf_records = grind arith; first_leaf = grind arith; last_leaf = grind arith })
    (λ s. grind arith)

pub returns-else-be32-eq0-3 : goal.returns-else-be32-eq0-3
returns-else-be32-eq0-3 c = says_if (dec_no_tree _) _ (λ e. absurd (grind arith)) (λ s. grind arith)
