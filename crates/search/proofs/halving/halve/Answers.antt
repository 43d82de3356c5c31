-- `halving::halve` meets its contract: what is left of the records gives what all give. Assumes nothing.
use mathlib.Core.Path.{◌≡◌, refl, sym, ◌∙◌}
use Prim.Native.Nat.{◌+◌, ◌/◌}
use native.Mathlib.Omega.{arith}
use lib.Dec.{ltb}
use borrow.Author.Tests.{ltb-true, ltb-false}
use Rattle.btree.specs.Header.{view_of}
use Rattle.btree.specs.Search.{halved_in}
use Rattle.formats.specs.Asked.{asked_rank}
use Rattle.formats.specs.Format.{view}
use Rattle.nodes.proofs.Within.{key-inside}
use Rattle.search.proofs.Narrowing.{narrowed-start, narrowed-after, narrowed-before, narrowed-few, narrowed-end}
use Rattle.search.proofs.halving.halve.Goals as goal
use Rattle.search.proofs.halving.halve.Goals.{After-asked_below}

-- whether the asked key is below that of the middle record
below : (c : After-asked_below) → let a = c.args in
    c.asked_below.result ≡ ltb (asked_rank a.form a.key a.name.now) ((view a.form a.image.now).key a.node ((c.loop-low.low + c.loop-low.high) / 2))
unfolding view_of
below c = rw c.record_at-there.ensures.0 at c.asked_below.ensures

pub loop-low-init : goal.loop-low-init
unfolding view_of
loop-low-init c = rw c.count_of-high.ensures.0 (omega (arith, c.count_of-high.ensures), narrowed-start _ _ _)

pub overflow_add-compared : goal.overflow_add-compared
overflow_add-compared c = let f = narrowed-few _ _ _ _ _ _ c.loop-low.invariant.1 c.loop-low.invariant.0 in omega arith

pub asked_below-requires : goal.asked_below-requires
unfolding view_of
asked_below-requires c =
    let h = c.loop-low.invariant.1.inside in
    let e = c.record_at-there.ensures in
    let k = key-inside _ _ _ c.requires ((c.loop-low.low + c.loop-low.high) / 2) (omega (arith, c.loop-low-test.true)) in
    (omega arith, omega arith)

pub loop-low-preserved-then-asked_below : goal.loop-low-preserved-then-asked_below
loop-low-preserved-then-asked_below c =
    let b = ltb-true _ _ (sym (below (goal.at.loop-low-preserved-then-asked_below c).After-asked_below) ∙ c.if-asked_below.true) in
    (c.loop-low.invariant.0, narrowed-before _ _ _ _ _ _ c.loop-low.invariant.1 _ c.loop-low-test.true refl b)

pub loop-low-preserved : goal.loop-low-preserved
loop-low-preserved c =
    let b = ltb-false _ _ (sym (below (goal.at.loop-low-preserved c).After-asked_below) ∙ c.if-asked_below.false) in
    (c.loop-low.invariant.0, narrowed-after _ _ _ _ _ _ c.loop-low.invariant.1 _ c.loop-low-test.true refl b)

pub returns : goal.returns
unfolding halved_in
returns c = let i = c.loop-low.invariant in (narrowed-end _ _ _ _ _ _ i.1 c.loop-low-test.false, narrowed-few _ _ _ _ _ _ i.1 i.0)
