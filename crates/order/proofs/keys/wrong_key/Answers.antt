-- `keys::wrong_key` meets its contract. Assumes nothing.
use mathlib.Core.Path.{sym, ap, ◌∙◌}
use Rattle.btree.specs.Hits.{hit_of}
use Rattle.btree.proofs.Keys.{wrong-fall, wrong-zero}
use Rattle.formats.specs.Format.{view}
use Rattle.order.specs.Bound.{bound}
use Rattle.order.proofs.Rising.{none-wrong}
use Rattle.btree.proofs.Telling.{told-no}
use Rattle.order.proofs.keys.wrong_key.Goals as goal

pub returns-then-not-first_meets : goal.returns-then-not-first_meets
returns-then-not-first_meets c =
    let a = c.args in
    let t = c.first_meets in
    sym (ap hit_of (wrong-zero (view a.form a.image.now) (bound a.form a.image.now a.low) (bound a.form a.image.now a.high) a.node (told-no t.result t.ensures (c.if-not-first_meets.true))))

pub returns-then-keys_rise : goal.returns-then-keys_rise
returns-then-keys_rise c =
    let a = c.args in
    let t = c.first_meets in
    sym (ap hit_of (none-wrong (view a.form a.image.now) (bound a.form a.image.now a.low) (bound a.form a.image.now a.high) a.node
    (t.ensures.holds (c.if-not-first_meets.false)) (c.keys_rise.ensures c.if-keys_rise.true)))

pub returns : goal.returns
returns c =
    let a = c.args in
    let t = c.first_meets in
    c.first_fall.ensures
    ∙ sym (ap hit_of (wrong-fall (view a.form a.image.now) (bound a.form a.image.now a.low) (bound a.form a.image.now a.high) a.node (t.ensures.holds (c.if-not-first_meets.false))))
