-- `first_seen` meets its contract: the nodes that are left give what all give. Assumes nothing.
use Prim.Native.Nat.{◌≤◌}
use native.Mathlib.Omega.{arith}
use mathlib.Core.Path.{◌≡◌, sym, ap, ◌∙◌}
use mathlib.Core.Option.{some}
use lib.ListN.{length}
use Rattle.btree.specs.declared.Salvage.TheVariants.{Seen}
use Rattle.btree.specs.Header.{view_of}
use Rattle.btree.proofs.Hits.{hit-at, hit-nowhere}
use Rattle.frame.proofs.Forms.{nodes-few, whole-node}
use Rattle.formats.specs.Asked.{asked_rank}
use Rattle.scan.specs.Seen.{seen_in}
use Rattle.scan.proofs.Looking.{seen_end, seen_here, seen-on}
use Rattle.scan.proofs.Matches.{seen-some}
use Rattle.scan.proofs.first_seen.Goals as goal
use Rattle.scan.proofs.first_seen.Goals.{After-nodes_of-total, In-Some}

few : (c : After-nodes_of-total) → c.nodes_of-total.result ≤ 65536
few c = rw (c.nodes_of-total.ensures, c.size.ensures.0) (nodes-few c.args.form (length c.args.image.now) c.requires)

-- the record that the node has
seen : (c : In-Some) → let a = c.args in
    seen_in a.form a.image.now (asked_rank a.form a.key a.name.now) c.loop-node.node ≡ some c.in-Some.i
seen c = hit-at _ _ (sym c.seen_in.ensures ∙ c.in-Some.is)

pub overflow_cast-total : goal.overflow_cast-total
overflow_cast-total c = omega (arith, few (goal.at.overflow_cast-total c).After-nodes_of-total)

pub loop-node-init : goal.loop-node-init
loop-node-init c = rw (c.nodes_of-total.ensures, c.size.ensures.0)

pub seen_in-requires : goal.seen_in-requires
seen_in-requires c =
    let e = rw c.size.ensures.0 at c.nodes_of-total.ensures in
    let t = c.loop-node-test.true in
    record { fair = c.size.ensures.1; inside = whole-node c.args.form (length c.args.image.now) c.loop-node.node (omega arith) }

pub record_place-requires : goal.record_place-requires
unfolding view_of
record_place-requires c =
    (seen-some _ _ _ _ _ (seen (goal.at.record_place-requires c).In-Some)).0.inside

pub returns-in-Some : goal.returns-in-Some
returns-in-Some c =
    ap Seen c.record_place.ensures ∙ sym (c.loop-node.invariant ∙ seen_here _ _ _ _ _ _ c.loop-node-test.true (seen (goal.at.returns-in-Some c).In-Some))

pub loop-node-preserved : goal.loop-node-preserved
loop-node-preserved c =
    c.loop-node.invariant ∙ seen-on _ _ _ _ _ c.loop-node-test.true (hit-nowhere _ (sym c.seen_in.ensures ∙ c.in_default.is))

pub returns : goal.returns
returns c = sym (c.loop-node.invariant ∙ seen_end _ _ _ _ _ c.loop-node-test.false)
