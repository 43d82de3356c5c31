-- `map_node_right` meets its contract: it is true exactly where the descriptor and both words are right. Assumes nothing.
use Rattle.std.proofs.Common.{◌*◌, arith}
use Rattle.btree.specs.Tests.{dec_descriptor, dec_map_node}
use Rattle.btree.proofs.Decisions.{said, says-yes}
use Rattle.btree.proofs.Faults.{says_if}
use Rattle.chain.proofs.map_node_right.Goals as goal

pub returns-then-word_from_end-node_map : goal.returns-then-word_from_end-node_map
returns-then-word_from_end-node_map c =
    let a = c.args in
    says_if (dec_map_node _ _ _) _
    (λ e. record { start = said (dec_descriptor a.image.now (a.node * a.form.size) 2 1) (grind arith); free_at = grind arith; record_at = grind arith })
    (λ s. grind arith)

pub returns-else-word_from_end-node_map : goal.returns-else-word_from_end-node_map
returns-else-word_from_end-node_map c =
    let a = c.args in
    says_if (dec_map_node _ _ _) _
    (λ e. absurd (grind arith))
    (λ s. let d = says-yes (dec_descriptor a.image.now (a.node * a.form.size) 2 1) s.start in grind arith)
