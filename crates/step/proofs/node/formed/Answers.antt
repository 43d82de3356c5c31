-- what each test that passed says
use mathlib.Core.Bool.{true}
use mathlib.Core.Option.{some}
use mathlib.Core.Path.{◌≡◌, refl, sym, ◌∙◌}
use Rattle.btree.proofs.First.{fault5, fault6}
use Rattle.btree.proofs.Decisions.{says-yes, said}
use Rattle.btree.proofs.Hits.{hit-at}
use Rattle.btree.proofs.Keys.{wrong-iff}
use Rattle.btree.specs.Walk.{wrong_key}
use Rattle.btree.specs.Header.{view_of}
use Rattle.btree.specs.Decide.{says}
use Rattle.order.specs.Bound.{bound}
use Rattle.formats.specs.Format.{dec_node_on, view}
use Rattle.nodes.proofs.Within.{records-within}
use Rattle.step.proofs.node.formed.Goals as goal
use Rattle.step.proofs.node.formed.Goals.{Else-not-node_right, In-Some}

head : (c : Else-not-node_right) → let a = c.args in says ((view a.form a.image.now).dec_well_formed a.e.node a.e.level) ≡ true
head c = sym c.node_right.ensures ∙ c.if-not-node_right.false

-- a key that is wrong
wrong : (c : In-Some) → let a = c.args in
    wrong_key (view a.form a.image.now) (bound a.form a.image.now a.e.low) (bound a.form a.image.now a.e.high) a.e.node ≡ some c.in-Some.i
wrong c = hit-at _ _ (sym c.wrong_key.ensures ∙ c.in-Some.is)

pub returns-then-node_passes : goal.returns-then-node_passes
unfolding view_of
returns-then-node_passes c =
    let q = c.node_passes.ensures c.if-node_passes.true in
    record { right = says-yes (dec_node_on _ _ _ _ _) q.formed; ordered = q.ordered; wrong = tt }

pub returns-then-not-node_right : goal.returns-then-not-node_right
returns-then-not-node_right c =
    let f = sym c.node_right.ensures ∙ c.if-not-node_right.true in
    record { right = tt; ordered = tt; wrong = λ p. rw c.at_node.ensures (fault5 _ _ _ _ refl f) }

pub wrong_key-requires : goal.wrong_key-requires
unfolding view_of
wrong_key-requires c =
    let r = (said (dec_node_on _ _ _ _ _) (head (goal.at.wrong_key-requires c).Else-not-node_right)).records in
    (records-within _ _ _ _ c.requires r, c.args.e.low_place, c.args.e.high_place)

pub record_place-place-requires : goal.record_place-place-requires
record_place-place-requires c = ((wrong-iff _ _ _ _ _).0 (wrong (goal.at.record_place-place-requires c).In-Some)).0

pub returns-in-Some : goal.returns-in-Some
returns-in-Some c =
    record {
      right = tt;
      ordered = tt;
      wrong = λ p. rw c.record_place-place.ensures (fault6 _ _ _ _ refl (head (goal.at.returns-in-Some c).Else-not-node_right) _ (wrong (goal.at.returns-in-Some c).In-Some));
    }
