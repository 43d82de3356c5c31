-- `leaf_record` meets its contract: what is left from a node on gives what all rows give from the first leaf. Assumes nothing.
use mathlib.Core.Logic.{inl, inr}
use Rattle.std.proofs.Common.{◌≡◌, ◌+◌, ◌-◌, ◌≤◌, ◌<◌, sym, ◌∙◌, arith}
use Rattle.btree.specs.Header.{view_of}
use Rattle.extents.specs.Reader.{view}
use Rattle.listing.proofs.Rows.{row_inside, row_on, row-none, row_told}
use Rattle.listing.proofs.leaf_record.Goals as goal

pub loop-init : goal.loop-init
unfolding view_of
loop-init c = let all : c.be32-end.result - 0 ≡ c.be32-end.result = omega arith in rw (all, c.be32-end.ensures, c.be32-node.ensures)

pub returns-then-node-eq0 : goal.returns-then-node-eq0
returns-then-node-eq0 c =
    let l = c.loop in
    let e = row-none (view c.args.image.now) (c.be32-end.result - l.counter) l.node l.left (inr c.if-node-eq0.true) in
    let p = row_told c.args.image.now c.args.k _ (sym e ∙ l.invariant) in record { equal = p.0; whole = p.1 }

pub returns-then-left-c : goal.returns-then-left-c
unfolding view_of
returns-then-left-c c =
    let l = c.loop in
    let v = view c.args.image.now in
    let many = rw c.of_hfs.ensures at c.count_of-c.ensures.0 in
    let inside : l.left < v.count l.node = rw (← many) c.if-left-c.true in
    let e = row_inside v (c.be32-end.result - l.counter) l.node l.left (omega arith) c.if-node-eq0.false inside in
    let p = row_told c.args.image.now c.args.k _ (sym e ∙ l.invariant) in record { equal = p.0; whole = p.1 }

pub loop-preserved : goal.loop-preserved
unfolding view_of
loop-preserved c =
    let l = c.loop in
    let v = view c.args.image.now in
    let many = rw c.of_hfs.ensures at c.count_of-c.ensures.0 in
    let link = rw c.of_hfs-in-loop.ensures at c.forward_of-node.ensures in
    let past : v.count l.node ≤ l.left = rw (← many) c.if-left-c.false in
    let e = row_on v (c.be32-end.result - l.counter) l.node l.left (omega arith) c.if-node-eq0.false past in
    let less : c.be32-end.result - (l.counter + 1) ≡ (c.be32-end.result - l.counter) - 1 = omega arith in
    rw (less, link, many) (sym e ∙ l.invariant)

pub returns : goal.returns
returns c =
    let l = c.loop in
    let e = row-none (view c.args.image.now) (c.be32-end.result - l.counter) l.node l.left (inl (omega arith)) in
    let p = row_told c.args.image.now c.args.k _ (sym e ∙ l.invariant) in record { equal = p.0; whole = p.1 }
