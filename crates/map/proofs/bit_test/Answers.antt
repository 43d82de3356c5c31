-- `bit_test` meets its contract. The loop's invariant: what is left from `node` on gives what the whole map gives. Assumes nothing.
use mathlib.Core.Path.{◌≡◌, refl, ap}
use mathlib.Core.Logic.{inl, inr}
use mathlib.Core.Option.{Option, some}
use Prim.Native.Nat.{ℕ, ◌+◌, ◌-◌, ◌*◌, ◌≤◌, ◌<◌}
use native.Mathlib.Omega.{arith}
use lib.ListN.{length, take, drop, length-take, length-drop}
use Rattle.image.specs.Bit.{bit_of}
use Rattle.btree.specs.Header.{total_of}
use Rattle.btree.specs.Image.{map_record}
use Rattle.btree.specs.Tests.{lowest_wrong}
use Rattle.frame.specs.Form.{header_map_of, node_map_of, layout_of}
use Rattle.map.proofs.Searched.{in-part, few-nodes, node-map-inside, header-range, header-found, searched-header, searched-end, record-inside, record-range, record-found, searched-more}
use Rattle.map.proofs.bit_test.Goals as goal
use Rattle.map.proofs.bit_test.Goals.{After-wrong_in, After-wrong_in-in-loop, Else-node-eq0, In-Some, In-Some-wrong_in}

-- what the search of the header's record says
at-header : {o : Option ℕ} (c : After-wrong_in) → let a = c.args in
    o ≡ lowest_wrong (bit_of a.bits.now) 0 (take (248 + c.header_map-header.result - 248) (drop 248 a.image.now)) → o ≡ lowest_wrong (bit_of a.bits.now) 0 (take (header_map_of a.form) (drop 248 a.image.now))
at-header c e =
    let h = c.header_map-header in
    let p : 248 + h.result - 248 ≡ header_map_of c.args.form = omega (arith, h.ensures.0) in
    in-part _ c.args.image.now _ 248 _ _ _ e refl p

in-header : (c : In-Some) → let a = c.args in
    some c.in-Some.bit ≡ lowest_wrong (bit_of a.bits.now) 0 (take (header_map_of a.form) (drop 248 a.image.now))
in-header c = at-header (goal.at.In-Some c).After-wrong_in c.in-Some.ensures

more : (c : Else-node-eq0) → 0 < total_of c.args.image.now - c.loop.counter
more c = omega (arith, c.be32-total.ensures, c.loop-test.true)

inside : (c : Else-node-eq0) → let a = c.args in c.loop.node * a.form.size + a.form.size ≤ length a.image.now
inside c = record-inside _ _ c.requires _ _ _ _ c.loop.invariant (more c) c.if-node-eq0.false

few : (c : Else-node-eq0) → c.loop.first ≤ 2147516416
few c = let f = few-nodes _ _ c.requires in let g = c.loop.invariant.few in omega arith

-- a map node's record ends in its node
ends : (c : Else-node-eq0) → 14 + c.node_map-each.result ≤ c.args.form.size
ends c = omega (arith, node-map-inside _ _ c.requires, c.node_map-each.ensures.0)

-- what the search of a map node's record says
at-record : {o : Option ℕ} (c : After-wrong_in-in-loop) → let a = c.args in let s = c.start_of-at.result in
    o ≡ lowest_wrong (bit_of a.bits.now) (8 * c.loop.first) (take (s + 14 + c.node_map-each.result - (s + 14)) (drop (s + 14) a.image.now))
    → o ≡ lowest_wrong (bit_of a.bits.now) (8 * c.loop.first) (map_record (layout_of a.form) a.image.now c.loop.node)
at-record c e =
    let s = c.start_of-at in
    let m = c.node_map-each in
    let p : s.result + 14 + m.result - (s.result + 14) ≡ node_map_of c.args.form = omega (arith, m.ensures.0) in
    in-part _ _ _ _ _ _ _ e (ap (λ n. n + 14) s.ensures.0) p

in-record : (c : In-Some-wrong_in) → let a = c.args in
    some c.in-Some-wrong_in.bit ≡ lowest_wrong (bit_of a.bits.now) (8 * c.loop.first) (map_record (layout_of a.form) a.image.now c.loop.node)
in-record c = at-record (goal.at.In-Some-wrong_in c).After-wrong_in-in-loop c.in-Some-wrong_in.ensures

range : (c : In-Some-wrong_in) → let k = c.in-Some-wrong_in.bit in
    (8 * c.loop.first ≤ k) × (k < 8 * c.loop.first + 8 * node_map_of c.args.form)
range c =
    record-range _ _ c.requires _ _ _ _ c.loop.invariant (more (goal.at.In-Some-wrong_in c).Else-node-eq0) c.if-node-eq0.false _ (in-record c)

pub overflow_cast-bit : goal.overflow_cast-bit
overflow_cast-bit c = let r = header-range _ _ c.requires _ _ (in-header c) in omega (arith, c.requires.fair.most)

pub returns-in-Some : goal.returns-in-Some
returns-in-Some c = rw c.at_byte.ensures (header-found _ _ c.requires _ _ (in-header (goal.at.returns-in-Some c).In-Some))

pub loop-init : goal.loop-init
loop-init c =
    let e : total_of c.args.image.now - 0 ≡ total_of c.args.image.now = omega arith in
    rw (c.forward_of-node.ensures, c.header_map-header.ensures.0, e)
    (searched-header _ _ c.requires _ (at-header (goal.at.loop-init c).After-wrong_in c.in_default.ensures))

pub slice_bounds-wrong_in-end-in-loop : goal.slice_bounds-wrong_in-end-in-loop
slice_bounds-wrong_in-end-in-loop c =
    let h = (goal.at.slice_bounds-wrong_in-end-in-loop c).Else-node-eq0 in
    let i = inside h in let e = ends h in omega (arith, c.start_of-at.ensures.0)

pub wrong_in-requires-in-loop : goal.wrong_in-requires-in-loop
wrong_in-requires-in-loop c =
    let f = few (goal.at.wrong_in-requires-in-loop c).Else-node-eq0 in
    (simp (length-take, length-drop) (omega (arith, c.node_map-each.ensures.1)), omega arith)

pub overflow_sub-offset : goal.overflow_sub-offset
overflow_sub-offset c = let (l, r) = range c in omega arith

pub overflow_cast-offset : goal.overflow_cast-offset
overflow_cast-offset c = let (l, r) = range c in omega (arith, ends (goal.at.overflow_cast-offset c).Else-node-eq0, c.node_map-each.ensures.0, c.requires.fair.most)

pub returns-in-Some-wrong_in : goal.returns-in-Some-wrong_in
returns-in-Some-wrong_in c =
    rw c.at_byte-in-Some-wrong_in.ensures
    (record-found _ _ c.requires _ _ _ _ c.loop.invariant (more (goal.at.returns-in-Some-wrong_in c).Else-node-eq0) c.if-node-eq0.false _ (in-record (goal.at.returns-in-Some-wrong_in c).In-Some-wrong_in))

pub loop-preserved : goal.loop-preserved
loop-preserved c =
    let e : total_of c.args.image.now - (c.loop.counter + 1) ≡ total_of c.args.image.now - c.loop.counter - 1 = omega arith in
    rw e
    (searched-more _ _ c.requires _ _ _ _ c.loop.invariant (more (goal.at.loop-preserved c).Else-node-eq0) c.if-node-eq0.false
    (omega (arith, c.node_map-each.ensures.0)) c.forward_of-node-in-loop.ensures (at-record (goal.at.loop-preserved c).After-wrong_in-in-loop c.in_default-wrong_in.ensures))

pub returns-after-loop : goal.returns-after-loop
returns-after-loop c = searched-end _ _ c.requires _ _ _ _ c.loop.invariant (inl (omega (arith, c.be32-total.ensures)))

pub returns-then-node-eq0 : goal.returns-then-node-eq0
returns-then-node-eq0 c = searched-end _ _ c.requires _ _ _ _ c.loop.invariant (inr c.if-node-eq0.true)
