-- `map_chain` meets its contract. The loop's invariant: what is left from `last` on gives what all of the chain gives. Assumes nothing.
use mathlib.Core.Path.{◌≡◌, sym, ◌∙◌}
use mathlib.Core.Logic.{◌⊎◌, inl, inr}
use mathlib.Core.Bool.{false}
use Prim.Native.Nat.{◌+◌, ◌-◌, ◌<◌}
use native.Mathlib.Omega.{arith}
use Rattle.image.specs.Set.{member}
use Rattle.btree.specs.Header.{total_of, forward_of}
use Rattle.frame.specs.Form.{layout_of}
use Rattle.chain.proofs.Links.{Linked, passed_none, out_of_range, repeated, no-map-node, passed-more, all-counted, too_few, no-fault, all-marked, chain-faulty}
use Rattle.chain.proofs.map_chain.Goals as goal
use Rattle.chain.proofs.map_chain.Goals.{Else-has, Else-next-eq0, Left-loop, else-loop-test, then-loop-test+then-next-eq0, then-next-total-via-then-next-total, then-next-total-via-else-next-total+then-has}

linked : (c : Else-next-eq0) → let a = c.args in let t = c.loop in
    Linked (layout_of a.form) a.image.now t.bits t.nodes t.last (total_of a.image.now - t.counter) c.forward_of-next.result
linked c =
    record { passed = c.loop.invariant; more = omega (arith, c.be32-total.ensures); link = c.forward_of-next.ensures; some = c.if-next-eq0.false }

range : (c : Else-has) → c.forward_of-next.result < total_of c.args.image.now
range c = omega (arith, c.be32-total.ensures)

fresh : (c : Else-has) → member c.loop.bits c.forward_of-next.result ≡ false
fresh c = sym c.has.ensures ∙ c.if-has.false

-- where the loop is left, the chain is at its end
over : (c : Left-loop) → let a = c.args in
    (total_of a.image.now - c.loop.counter ≡ 0) ⊎ (forward_of (layout_of a.form) a.image.now c.loop.last ≡ 0)
over c = elim c.loop-test.branch [
  | else-loop-test w ↦ inl (omega (arith, c.be32-total.ensures))
  | then-loop-test+then-next-eq0 w ↦ inr (sym w.forward_of-next.ensures ∙ w.if-next-eq0.true)
]

pub loop-init : goal.loop-init
loop-init c =
    let e : total_of c.args.image.now - 0 ≡ total_of c.args.image.now = omega arith in
    rw (c.mark.ensures, c.clear.ensures, e) (passed_none _ _ _ c.requires.some c.requires.enough)

pub returns-then-next-total : goal.returns-then-next-total
returns-then-next-total c =
    let k = linked (goal.at.returns-then-next-total c).Else-next-eq0 in
    chain-faulty c.at_node.ensures
    (elim c.then-next-total.branch [
      | then-next-total-via-then-next-total w ↦ out_of_range k (omega (arith, c.be32-total.ensures))
      | then-next-total-via-else-next-total+then-has w ↦ repeated k (omega (arith, c.be32-total.ensures)) (sym w.has.ensures ∙ w.if-has.true)
    ])

pub returns-then-not-map_node_right : goal.returns-then-not-map_node_right
returns-then-not-map_node_right c =
    let h = (goal.at.returns-then-not-map_node_right c).Else-has in
    chain-faulty c.at_node-then-not-map_node_right.ensures
    (no-map-node (linked (goal.at.returns-then-not-map_node_right c).Else-next-eq0) (range h) (fresh h) (sym c.map_node_right.ensures ∙ c.if-not-map_node_right.true))

pub loop-preserved : goal.loop-preserved
loop-preserved c =
    let h = (goal.at.loop-preserved c).Else-has in
    let e : total_of c.args.image.now - (c.loop.counter + 1) ≡ total_of c.args.image.now - c.loop.counter - 1 = omega arith in
    rw (c.mark-in-loop.ensures, e)
    (passed-more (linked (goal.at.loop-preserved c).Else-next-eq0) (range h) (fresh h) (sym c.map_node_right.ensures ∙ c.if-not-map_node_right.false))

pub returns-then-total-map_size : goal.returns-then-total-map_size
returns-then-total-map_size c =
    chain-faulty c.at_node-then-total-map_size.ensures
    (too_few c.loop.invariant (over (goal.at.returns-then-total-map_size c).Left-loop) (omega (arith, c.map_size.ensures.0, c.be32-total.ensures, c.if-total-map_size.true)))

pub returns : goal.returns
returns c =
    let p = c.loop.invariant in
    let e = over (goal.at.returns c).Left-loop in
    record { verdict = sym (no-fault p e (omega (arith, c.map_size.ensures.0, c.be32-total.ensures, c.if-total-map_size.false))); marks = all-marked p e; count = all-counted p e }
