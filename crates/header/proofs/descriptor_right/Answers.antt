-- `descriptor_right` meets its contract: it is true exactly where all five fields are right. Assumes nothing.
use Rattle.std.proofs.Common.{arith}
use Rattle.btree.specs.Tests.{dec_descriptor}
use Rattle.btree.proofs.Faults.{says_if}
use Rattle.header.proofs.descriptor_right.Goals as goal

pub returns-then-be16-records : goal.returns-then-be16-records
returns-then-be16-records c =
    says_if (dec_descriptor _ _ _ _) _
    (λ e. record { back = grind arith; is_kind = grind arith; level = grind arith; count = grind arith; reserved = grind arith })
    (λ s. grind arith)

pub returns-else-be16-records : goal.returns-else-be16-records
returns-else-be16-records c = says_if (dec_descriptor _ _ _ _) _ (λ e. absurd (grind arith)) (λ s. grind arith)
