-- `write_tree` meets its contract. Assumes nothing.
use mathlib.Core.Path.{◌≡◌, refl, sym, ap, ◌∙◌}
use mathlib.Core.Bool.{true}
use Prim.Native.Nat.{◌≤◌}
use native.Mathlib.Omega.{arith}
use borrow.Author.Rules.{rules}
use Rattle.btree.specs.Decide.{says}
use Rattle.btree.specs.Faults.{fault_verdict}
use Rattle.btree.specs.Image.{Lengths}
use Rattle.btree.specs.Tests.{dec_lengths}
use Rattle.btree.proofs.Decisions.{said}
use Rattle.frame.specs.Form.{hfs, layout_of}
use Rattle.shape.specs.Shape.{records_in, start, levels}
use Rattle.laid.specs.Laid.{wanted, root_for}
use Rattle.leaf_rows.specs.Row.{dec_row_law}
use Rattle.tree_writer.proofs.Planned.{root-most, maps-most}
use Rattle.writing.specs.Written.{nodes_in}
use Rattle.writing.proofs.Answers.{refused-1, refused-19, refused-20, accepted, refusal, success}
use Rattle.writing.proofs.write_tree.Goals as goal
use Rattle.writing.proofs.write_tree.Goals.{After-planned-plan, Else-not-length_right, Else-not-row_right}

-- what the tests have shown
judged : (c : Else-not-length_right) → says (dec_lengths (layout_of hfs) c.args.target.now) ≡ true
judged c = sym (rw c.of_hfs.ensures at c.length_right.ensures) ∙ c.if-not-length_right.false

lengths : (c : Else-not-length_right) → Lengths (layout_of hfs) c.args.target.now
lengths c = said (dec_lengths (layout_of hfs) c.args.target.now) (judged c)

few : (c : Else-not-length_right) → nodes_in c.args.target.now ≤ 65536
few c = omega (arith, (lengths c).few)

lawful : (c : Else-not-row_right) → says (dec_row_law c.args.row.now) ≡ true
lawful c = sym c.row_right.ensures ∙ c.if-not-row_right.false

-- the nodes that are wanted
used-is : (c : After-planned-plan) → let s = c.args in c.planned-plan.result.used ≡ wanted s.row.now (nodes_in s.target.now)
unfolding wanted
used-is c = c.planned-plan.ensures.is_used ∙ ap (λ m. start m (records_in c.args.row.now) (levels (records_in c.args.row.now))) c.maps_for-maps.ensures

pub returns-then-not-length_right : goal.returns-then-not-length_right
returns-then-not-length_right c =
    let s = c.args in
    let a = sym (rw c.of_hfs.ensures at c.length_right.ensures) ∙ c.if-not-length_right.true in
    let w = refusal s.row.now s.target.now 1 _ (omega arith) (refused-1 _ _ a) (ap fault_verdict c.at_node.ensures) in record {
      equal = w.equal;
      written = w.bytes;
      says = w.demand;
    }

pub returns-then-not-row_right : goal.returns-then-not-row_right
returns-then-not-row_right c =
    let s = c.args in
    let b = sym c.row_right.ensures ∙ c.if-not-row_right.true in
    let w = refusal s.row.now s.target.now 19 _ (omega arith) (refused-19 _ _ (judged (goal.at.returns-then-not-row_right c).Else-not-length_right) b) (ap fault_verdict c.at_node-then-not-row_right.ensures) in record {
      equal = w.equal;
      written = w.bytes;
      says = w.demand;
    }

pub maps_for-maps-requires : goal.maps_for-maps-requires
maps_for-maps-requires c = few (goal.at.maps_for-maps-requires c).Else-not-length_right

pub planned-plan-requires : goal.planned-plan-requires
planned-plan-requires c = (omega (arith, c.maps_for-maps.ensures, maps-most _ (few (goal.at.planned-plan-requires c).Else-not-length_right)), search rules)

pub returns-then-plan-nodes : goal.returns-then-plan-nodes
returns-then-plan-nodes c =
    let s = c.args in
    let w = refusal s.row.now s.target.now 20 _ (omega arith)
    (refused-20 _ _ (judged (goal.at.returns-then-plan-nodes c).Else-not-length_right) (lawful (goal.at.returns-then-plan-nodes c).Else-not-row_right) (omega (arith, used-is (goal.at.returns-then-plan-nodes c).After-planned-plan, c.if-plan-nodes.true))) (ap fault_verdict c.at_node-then-plan-nodes.ensures) in record {
      equal = w.equal;
      written = w.bytes;
      says = w.demand;
    }

pub overflow_cast-maps : goal.overflow_cast-maps
overflow_cast-maps c = omega (arith, c.maps_for-maps.ensures, maps-most _ (few (goal.at.overflow_cast-maps c).Else-not-length_right))

pub overflow_cast-plan : goal.overflow_cast-plan
overflow_cast-plan c =
    let p = c.planned-plan.ensures in
    let r = root-most c.maps_for-maps.result (records_in c.args.row.now) (levels (records_in c.args.row.now)) in
    omega (arith, p.is_root, p.is_used, few (goal.at.overflow_cast-plan c).Else-not-length_right, c.if-plan-nodes.false)

pub overflow_cast-plan-2 : goal.overflow_cast-plan-2
overflow_cast-plan-2 c = omega (arith, few (goal.at.overflow_cast-plan-2 c).Else-not-length_right, c.if-plan-nodes.false)

pub lay-requires : goal.lay-requires
lay-requires c =
    let s = c.args in
    let p = c.planned-plan.ensures in
    let l = lengths (goal.at.lay-requires c).Else-not-length_right in
    let law = said (dec_row_law s.row.now) (lawful (goal.at.lay-requires c).Else-not-row_right) in
    record {
      whole = law.whole;
      nodes = l.whole;
      few = l.few;
      is_maps = c.maps_for-maps.ensures;
      is_depth = p.is_depth;
      is_root = p.is_root ∙ ap (root_for c.maps_for-maps.result (records_in s.row.now)) (sym p.is_depth);
      is_used = p.is_used ∙ ap (start c.maps_for-maps.result (records_in s.row.now)) (sym p.is_depth);
      fits = c.if-plan-nodes.false;
    }

pub returns : goal.returns
returns c =
    let s = c.args in
    let w = success s.row.now s.target.now _ _
    (accepted _ _ (judged (goal.at.returns c).Else-not-length_right) (lawful (goal.at.returns c).Else-not-row_right) (omega (arith, used-is (goal.at.returns c).After-planned-plan, c.if-plan-nodes.false))) refl c.lay.ensures in record {
      equal = w.equal;
      written = w.bytes;
      says = w.demand;
    }
