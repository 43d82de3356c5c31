-- `ascent::extents_ascend` meets its contract. Assumes nothing.
use native.Mathlib.Omega.{arith}
use Prim.Native.Nat.{ℕ, ◌+◌, ◌<◌, ◌≤◌}
use mathlib.Core.Path.{◌≡◌, sym, ◌∙◌}
use lib.ListN.{length}
use native.Mathlib.Numerals.{add-one}
use borrow.Author.Tests.{ltb-true, ltb-false}
use borrow.Author.Count.{below_more}
use Rattle.btree.specs.Header.{view_of}
use Rattle.btree.proofs.Telling.{tells-yes, tells-no}
use Rattle.extent_keys.specs.Key.{rank_of}
use Rattle.formats.specs.Format.{record_at, view}
use Rattle.formats.proofs.Ranks.{rank-extents}
use Rattle.formats.proofs.Starts.{record-next}
use Rattle.nodes.proofs.Within.{key-inside}
use Rattle.order.proofs.Rising.{not-ascending}
use Rattle.order.proofs.ascent.extents_ascend.Goals as goal
use Rattle.order.proofs.ascent.extents_ascend.Goals.{After-key_in-next, At-loop-i, In-loop-i}

-- a record that the node has lies in the image
inside : (c : At-loop-i) (i : ℕ) → let a = c.args in
    i < c.count_of-c.result → record_at a.form a.image.now a.node i + 12 ≤ length a.image.now
inside c i h = let n = c.count_of-c.ensures.0 in key-inside _ _ _ c.requires.1 i (omega arith)

-- the next record starts a step further on
next : (c : In-loop-i) → let a = c.args in
    c.loop-i.at + c.record_step-step.result ≡ record_at a.form a.image.now a.node (c.loop-i._i + 1)
next c =
    let n = record-next c.args.form c.args.image.now c.requires.0 c.args.node c.loop-i._i in
    let z = c.record_step-step.ensures.0 in
    let e = c.loop-i.invariant.0 in
    omega arith

-- the key that is read there
read : (c : After-key_in-next) → let a = c.args in
    rank_of c.key_in-next.result ≡ (view a.form a.image.now).key a.node (c.loop-i._i + 1)
unfolding view_of
read c = rw (← next (goal.at.After-key_in-next c).In-loop-i) ((rw c.numbers-numbers.ensures at c.key_in-next.ensures) ∙ sym (rank-extents c.args.form c.requires.0 c.args.image.now _))

pub returns-then-c-eq0 : goal.returns-then-c-eq0
unfolding view_of
returns-then-c-eq0 c = tells-yes (λ i h. let e = c.count_of-c.ensures.0 in let z = c.if-c-eq0.true in absurd (omega arith))

pub key_in-key-requires : goal.key_in-key-requires
key_in-key-requires c =
    let q = c.count_of-c.ensures.0 in
    let z = c.if-c-eq0.false in
    let k = key-inside _ _ _ c.requires.1 0 (omega arith) in
    let e = c.record_at-at.ensures.0 in
    omega arith

pub loop-i-init : goal.loop-i-init
unfolding view_of
loop-i-init c =
    let r = c.record_at-at.ensures in
    let k = rank-extents c.args.form c.requires.0 c.args.image.now _ in
    (r.0, omega (arith, r.1), rw (← r.0) ((rw c.numbers-numbers.ensures at c.key_in-key.ensures) ∙ sym k), λ j h. absurd (omega arith))

pub key_in-next-requires : goal.key_in-next-requires
key_in-next-requires c = let h = inside (goal.at.key_in-next-requires c).At-loop-i (c.loop-i._i + 1) (omega (arith, c.loop-i-test.true)) in let e = next (goal.at.key_in-next-requires c).In-loop-i in omega arith

pub returns-then-not-is_below : goal.returns-then-not-is_below
unfolding view_of
returns-then-not-is_below c =
    let n = c.count_of-c.ensures.0 in
    let x = c.loop-i.invariant.2 in
    let y = read (goal.at.returns-then-not-is_below c).After-key_in-next in
    let b = ltb-false (rank_of c.loop-i.key) (rank_of c.key_in-next.result) (sym c.is_below.ensures ∙ c.if-not-is_below.true) in
    let a = c.args in
    tells-no (not-ascending (view a.form a.image.now) a.node c.loop-i._i (omega arith) (omega (arith, c.loop-i-test.true)))

pub loop-i-preserved : goal.loop-i-preserved
loop-i-preserved c =
    let z = c.record_step-step.ensures.1 in
    let x = c.loop-i.invariant.2 in
    let y = read (goal.at.loop-i-preserved c).After-key_in-next in
    let b = ltb-true (rank_of c.loop-i.key) (rank_of c.key_in-next.result) (sym c.is_below.ensures ∙ c.if-not-is_below.false) in
    (next (goal.at.loop-i-preserved c).In-loop-i, omega arith, y, below_more _ _ c.loop-i.invariant.3 (omega arith))

pub returns : goal.returns
unfolding view_of
returns c =
    let n = c.count_of-c.ensures.0 in
    tells-yes (λ j h. rw (← add-one j) (c.loop-i.invariant.3 j (omega arith)))
