-- `form::records_right` meets its contract. Assumes nothing.
use mathlib.Core.Path.{sym}
use native.Mathlib.Omega.{arith}
use Rattle.btree.proofs.Decisions.{says-no}
use Rattle.btree.proofs.Telling.{tells-says}
use Rattle.frame.specs.Kinds.{kind_of}
use Rattle.formats.specs.Format.{dec_records}
use Rattle.nodes.proofs.form.records_right.Goals as goal

pub returns-then-kind_of-number : goal.returns-then-kind_of-number
unfolding kind_of
returns-then-kind_of-number c = sym (says-no (dec_records _ _ _ _) (λ r. grind arith))

pub returns-in-Extents : goal.returns-in-Extents
unfolding kind_of
returns-in-Extents c =
    let t = sym c.in-Extents.ensures in
    tells-says _ (dec_records _ _ _ _) c.records_right.ensures (λ l. grind arith) (λ r. r.extents t)

pub returns-in-Catalog : goal.returns-in-Catalog
unfolding kind_of
returns-in-Catalog c =
    let t = c.in-Catalog.ensures in
    tells-says _ (dec_records _ _ _ _) c.records_right-in-Catalog.ensures (λ l. grind arith) (λ r. r.catalog (omega arith))
