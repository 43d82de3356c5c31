-- `outside::is_outside` meets its contract. Assumes nothing.
use mathlib.Core.Path.{refl, sym, ap, ◌∙◌}
use Prim.Native.Nat.{◌-◌}
use borrow.Author.Tests.{ltb-true}
use Rattle.btree.specs.Header.{view_of}
use Rattle.fast_records.proofs.Surely.{never}
use Rattle.scan.proofs.Ends.{below-first, above-last}
use Rattle.scan.proofs.outside.is_outside.Goals as goal

pub returns-in-Catalog : goal.returns-in-Catalog
returns-in-Catalog c = never

pub returns-then-c-eq0 : goal.returns-then-c-eq0
returns-then-c-eq0 c = never

pub returns-then-is_below : goal.returns-then-is_below
returns-then-is_below c e =
    let a = c.args in
    below-first a.form a.image.now a.node (sym c.in-Extents.ensures) a.key _ _ 0 c.record_at.ensures.0 (rw c.numbers-numbers.ensures at c.key_at-first.ensures) refl (ltb-true _ _ (sym c.is_below.ensures ∙ c.if-is_below.true))

pub returns-else-is_below : goal.returns-else-is_below
unfolding view_of
returns-else-is_below c e =
    let a = c.args in
    above-last a.form a.image.now a.node (sym c.in-Extents.ensures) a.key _ _ (c.count_of-c.result - 1) c.record_at-in-Extents.ensures.0 (rw c.numbers-numbers.ensures at c.key_at-last.ensures) (ap (λ m. m - 1) c.count_of-c.ensures.0) (ltb-true _ _ (sym c.is_below-in-Extents.ensures ∙ e))
