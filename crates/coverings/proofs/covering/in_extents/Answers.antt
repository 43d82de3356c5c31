-- `covering::in_extents` meets its contract. Assumes nothing.
use mathlib.Core.Path.{◌≡◌, sym, ap, subst, ◌∙◌}
use Prim.Native.Nat.{ℕ}
use native.Mathlib.Omega.{arith}
use lib.ListN.{length}
use Rattle.btree.proofs.Decisions.{cond_yes, cond_no, said, unsaid}
use Rattle.extent_keys.specs.Key.{asked}
use Rattle.extents.specs.declared.floors.Floor.{Floor}
use Rattle.extents.specs.Reader.{checked, Leaves}
use Rattle.extents.specs.Floor.{floor_reply}
use Rattle.extents.proofs.Laws.{floored-left}
use Rattle.coverings.specs.declared.answers.Source.TheVariants.{Extents}
use Rattle.coverings.specs.Answers.{mapped_to}
use Rattle.coverings.specs.Covered.{Covers, dec_covers, later_covering, by_floor, in_extents}
use Rattle.coverings.proofs.Order.{by-floor}
use Rattle.coverings.proofs.covering.in_extents.Goals as goal
use Rattle.coverings.proofs.covering.in_extents.Goals.{After-floor, Else-not-covers}

-- what is answered goes by what the call for the record answers
answers : (c : After-floor) (r : Floor) → c.floor.result ≡ r → let a = c.args in
    by_floor a.extents.now (length a.work.now) a.file a.fork a.file_block r ≡ in_extents a.extents.now (length a.work.now) a.file a.fork a.file_block
answers c r e = by-floor _ _ _ _ _ r (sym e ∙ c.floor.ensures.equal)

leaves : (c : After-floor) → let a = c.args in Leaves a.extents.now (checked a.extents.now (length a.work.now)).number a.work.now c.floor.new.work
leaves c =
    let a = c.args in
    floored-left a.extents.now _ (asked a.file a.fork a.file_block) c.requires _ _
    (subst (λ (r : Floor). Leaves a.extents.now (floor_reply r).number a.work.now c.floor.new.work) c.floor.ensures.equal c.floor.ensures.leaves)

covered : (c : Else-not-covers) → let a = c.args in Covers c.in-At.record a.file a.fork a.file_block
covered c = said (dec_covers _ _ _ _) (sym c.covers.ensures ∙ c.if-not-covers.false)

pub returns-then-not-covers : goal.returns-then-not-covers
returns-then-not-covers c = record {
  equal = c.uncovered.ensures ∙ sym (cond_no (dec_covers _ _ _ _) _ _ (unsaid (dec_covers _ _ _ _) (sym c.covers.ensures ∙ c.if-not-covers.true))) ∙ answers (goal.at.returns-then-not-covers c).After-floor _ c.in-At.is;
  leaves = leaves (goal.at.returns-then-not-covers c).After-floor;
}

pub overflow_sub-file_block : goal.overflow_sub-file_block
overflow_sub-file_block c = omega (arith, (covered (goal.at.overflow_sub-file_block c).Else-not-covers).from)

pub returns-else-not-covers : goal.returns-else-not-covers
returns-else-not-covers c =
    let p = c.in-At.place in record {
      equal = c.mapped_to.ensures
          ∙ ap (λ (at : ℕ). mapped_to (record { source = Extents; place = p; start = at }) c.counted_off.result) c.data_at-start.ensures.0
          ∙ ap (mapped_to (later_covering c.args.extents.now p)) c.counted_off.ensures
          ∙ sym (cond_yes (dec_covers _ _ _ _) _ _ (covered (goal.at.returns-else-not-covers c).Else-not-covers))
          ∙ answers (goal.at.returns-else-not-covers c).After-floor _ c.in-At.is;
      leaves = leaves (goal.at.returns-else-not-covers c).After-floor;
    }

pub returns-in-Nowhere : goal.returns-in-Nowhere
returns-in-Nowhere c = record {
  equal = c.uncovered-in-Nowhere.ensures ∙ answers (goal.at.returns-in-Nowhere c).After-floor _ c.in-Nowhere.is;
  leaves = leaves (goal.at.returns-in-Nowhere c).After-floor;
}

pub returns-in-Refused : goal.returns-in-Refused
returns-in-Refused c = record {
  equal = answers (goal.at.returns-in-Refused c).After-floor _ c.in-Refused.is;
  leaves = leaves (goal.at.returns-in-Refused c).After-floor;
}
