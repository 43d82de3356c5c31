-- `length_right` meets its contract: it is true exactly where the length is right. Assumes nothing.
use Rattle.std.proofs.Common.{arith}
use Rattle.btree.specs.Tests.{dec_lengths}
use Rattle.btree.proofs.Faults.{says_if}
use Rattle.header.proofs.length_right.Goals as goal

pub returns-then-len-size : goal.returns-then-len-size
returns-then-len-size c = says_if (dec_lengths _ _) _ (λ e. record { whole = grind arith; some = grind arith; few = grind arith }) (λ s. grind arith)

pub returns-else-len-size : goal.returns-else-len-size
returns-else-len-size c = says_if (dec_lengths _ _) _ (λ e. absurd (grind arith)) (λ s. grind arith)
