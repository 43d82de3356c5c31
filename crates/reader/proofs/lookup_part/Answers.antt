-- `lookup_part` meets its contract. Assumes nothing.
use lib.ListN.{length}
use mathlib.Core.Logic.{⊎_elim}
use mathlib.Core.Path.{◌≡◌, sym, ap, ◌∙◌}
use Rattle.btree.specs.declared.Lookup.{Lookup}
use Rattle.btree.specs.declared.Answer.{Answer}
use Rattle.btree.specs.Numbers.{lookup_reply}
use Rattle.formats.specs.Asked.{asked_rank}
use Rattle.reader.specs.Reader.{Leaves, looked_up_by}
use Rattle.reader.proofs.Demands.{found_inside}
use Rattle.reader.proofs.lookup_part.Goals as goal
use Rattle.reader.proofs.lookup_part.Goals.{After-lookup-found, Start}

abbrev looked : Start → Lookup
looked s = looked_up_by s.args.form s.args.image.now s.args.lawful (asked_rank s.args.form s.args.key s.args.name.now) (length s.args.work.now)

-- what the lookup answers, as the definition has it
answers : (c : After-lookup-found) (a : Answer) → c.lookup-found.result.answer ≡ a → (looked (goal.at.After-lookup-found c).Start).answer ≡ a
answers c a e = sym (ap (λ (l : Lookup). l.answer) c.lookup-found.ensures.equal) ∙ e

-- and what it leaves
leaves : (c : After-lookup-found) → Leaves c.args.form c.args.image.now (lookup_reply (looked (goal.at.After-lookup-found c).Start).answer).number c.args.work.now c.lookup-found.new.work
leaves c = rw c.lookup-found.ensures.equal at c.lookup-found.ensures.leaves

pub data_of-requires : goal.data_of-requires
data_of-requires c =
    found_inside c.args.form c.requires c.args.image.now _ _ _ c.args.lawful (answers (goal.at.data_of-requires c).After-lookup-found _ c.in-Found.is)

pub returns-in-Found : goal.returns-in-Found
returns-in-Found c = record {
  part = rw (answers (goal.at.returns-in-Found c).After-lookup-found _ c.in-Found.is) c.data_of.ensures;
  leaves = leaves (goal.at.returns-in-Found c).After-lookup-found;
}

pub returns-in-Absent : goal.returns-in-Absent
returns-in-Absent c = record {
  part =
      ⊎_elim (λ (x, e). rw (answers (goal.at.returns-in-Absent c).After-lookup-found _ e) c.no_part.ensures)
      (λ (n, p, e). rw (answers (goal.at.returns-in-Absent c).After-lookup-found _ e) c.no_part.ensures) c.in-Absent.is;
  leaves = leaves (goal.at.returns-in-Absent c).After-lookup-found;
}
