-- `descent::reach` meets its contract. Assumes nothing.
use native.Mathlib.Omega.{arith}
use mathlib.Core.Path.{◌≡◌, sym, subst, ◌∙◌}
use Rattle.btree.specs.Header.{view_of}
use Rattle.formats.specs.Asked.{asked_rank}
use Rattle.formats.specs.Format.{view}
use Rattle.search.specs.Descent.{Reaches}
use Rattle.search.proofs.Stored.{stored-none, stored-root, stored-child, stops-path, ends-path}
use Rattle.search.proofs.descent.reach.Goals as goal

pub returns-then-depth-eq0 : goal.returns-then-depth-eq0
unfolding view_of
returns-then-depth-eq0 c =
    let a = c.args in
    let v = view a.form a.image.now in
    let k = asked_rank a.form a.key a.name.now in
    subst (Reaches v k) (sym c.ended.ensures) (stored-none v k (sym c.be16-depth.ensures.0 ∙ c.if-depth-eq0.true))

pub loop-len-init : goal.loop-len-init
unfolding view_of
loop-len-init c =
    let a = c.args in
    let e = c.be16-depth.ensures.0 in
    rw c.be32-node.ensures (stored-root (view a.form a.image.now) (asked_rank a.form a.key a.name.now) _ c.if-depth-eq0.false e (let h = c.requires.shallow in omega arith))

pub halve-halved-requires : goal.halve-halved-requires
halve-halved-requires c = c.requires.inside _ _ c.loop-len.invariant.on

pub returns-then-end-eq0 : goal.returns-then-end-eq0
returns-then-end-eq0 c =
    let a = c.args in
    let v = view a.form a.image.now in
    let k = asked_rank a.form a.key a.name.now in
    subst (Reaches v k) (sym c.ended-then-end-eq0.ensures) (stops-path v k c.requires.tree _ _ _ _ _ c.loop-len.invariant _ c.halve-halved.ensures.0 c.loop-len-test.true c.if-end-eq0.true)

pub loop-len-preserved : goal.loop-len-preserved
loop-len-preserved c =
    let a = c.args in
    rw c.child_of-node.ensures
    (stored-child (view a.form a.image.now) (asked_rank a.form a.key a.name.now) c.requires.tree _ _ _ _ _ c.loop-len.invariant _ c.halve-halved.ensures.0 c.loop-len-test.true c.if-end-eq0.false c.halve-halved.ensures.1)

pub halve-halved-requires-2 : goal.halve-halved-requires-2
halve-halved-requires-2 c = c.requires.inside _ _ c.loop-len.invariant.on

pub returns : goal.returns
returns c =
    let a = c.args in
    let v = view a.form a.image.now in
    let k = asked_rank a.form a.key a.name.now in
    let e : c.be16-depth.result ≡ c.loop-len.len = omega (arith, c.loop-len-test.false) in
    subst (Reaches v k) (sym c.ended-2.ensures) (rw e (ends-path v k c.requires.tree _ _ _ _ _ c.loop-len.invariant _ c.halve-halved-2.ensures.0 c.loop-len-test.false))
