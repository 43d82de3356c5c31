-- `offsets_right` meets its contract: it is true exactly where all four words are right. Assumes nothing.
use Rattle.std.proofs.Common.{arith}
use Rattle.btree.proofs.Faults.{says_if}
use Rattle.header.specs.Offsets.{dec_offsets}
use Rattle.header.proofs.offsets_right.Goals as goal

pub returns-then-be16-eq120 : goal.returns-then-be16-eq120
returns-then-be16-eq120 c =
    says_if (dec_offsets _ _) _
    (λ e. record { free_at = grind arith; map_at = grind arith; second_at = grind arith; record_at = grind arith })
    (λ s. grind arith)

pub returns-else-be16-eq120 : goal.returns-else-be16-eq120
returns-else-be16-eq120 c = says_if (dec_offsets _ _) _ (λ e. absurd (grind arith)) (λ s. grind arith)
