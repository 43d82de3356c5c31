-- `whole::is_whole` meets its contract. Assumes nothing.
use mathlib.Core.Path.{sym, ◌∙◌}
use Rattle.btree.proofs.Decisions.{says-no, said, unsaid}
use Rattle.btree.proofs.Telling.{tells-says}
use Rattle.frame.specs.Kinds.{leaf_kind}
use Rattle.formats.specs.Format.{dec_records}
use Rattle.nodes.proofs.Within.{records-within}
use Rattle.order.specs.Whole.{dec_whole_leaf}
use Rattle.order.proofs.whole.is_whole.Goals as goal

pub keys_ascend-requires : goal.keys_ascend-requires
keys_ascend-requires c = records-within _ _ _ leaf_kind c.requires (said (dec_records _ _ _ _) (sym c.if-records_right.ensures))

pub returns-then-records_right : goal.returns-then-records_right
returns-then-records_right c =
    tells-says _ (dec_whole_leaf _ _ _) c.keys_ascend.ensures
    (λ a. record { records = said (dec_records _ _ _ _) (sym c.if-records_right.ensures); ascend = a })
    (λ w. w.ascend)

pub returns-else-records_right : goal.returns-else-records_right
returns-else-records_right c =
    c.if-records_right.false ∙ sym (says-no (dec_whole_leaf _ _ _) (λ w. unsaid (dec_records _ _ _ _) (sym c.if-records_right.ensures) w.records))
