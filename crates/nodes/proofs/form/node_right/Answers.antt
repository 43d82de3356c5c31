-- `form::node_right` meets its contract. Assumes nothing.
use mathlib.Core.Path.{◌∙◌}
use native.Mathlib.Omega.{arith}
use Rattle.btree.specs.Header.{depth_of, view_of}
use Rattle.btree.proofs.Decisions.{says-no, says_same}
use Rattle.formats.specs.Format.{dec_records, dec_node_on}
use Rattle.nodes.proofs.form.node_right.Goals as goal

pub returns-then-is_at_its_level : goal.returns-then-is_at_its_level
unfolding view_of
returns-then-is_at_its_level c =
    let l = c.level_of-level.ensures.0 in
    c.records_right.ensures
    ∙ rw (c.kind_on.ensures, l)
    (says_same (dec_records _ _ _ _) (dec_node_on _ _ _ _ _) (λ r. record { level = omega arith; records = r }) (λ n. n.records))

pub returns-else-is_at_its_level : goal.returns-else-is_at_its_level
unfolding view_of
returns-else-is_at_its_level c =
    let n = says-no (dec_node_on c.args.form c.args.image.now (depth_of c.args.image.now) c.args.node c.args.above) (λ r. let e = r.level in omega arith) in
    grind arith
