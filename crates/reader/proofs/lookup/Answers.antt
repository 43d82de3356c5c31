-- `lookup` meets its contract. Assumes nothing.
use mathlib.Core.Path.{◌≡◌, refl, sym, ap, ◌∙◌}
use mathlib.Core.Bool.{true}
use mathlib.Core.List.Memᴰ
use native.Mathlib.Omega.{arith}
use Rattle.btree.specs.declared.Lookup.{Lookup}
use Rattle.btree.specs.declared.Verdict.{Verdict}
use Rattle.btree.specs.Faults.{fault_verdict}
use Rattle.btree.specs.Search.{refused}
use Rattle.btree.proofs.Faults.{some_number}
use Rattle.btree.proofs.Work.{left-untouched, leaves}
use Rattle.frame.specs.Form.{layout_of}
use Rattle.formats.specs.Format.{format_of}
use Rattle.search.proofs.Searched.{searchable}
use Rattle.reader.proofs.Demands.{by-refused, by-answers, descends}
use Rattle.reader.proofs.lookup.Goals as goal
use Rattle.reader.proofs.lookup.Goals.{After-check}

lawful : (c : After-check) → c.args.lawful ≡ true
lawful c = c.if-not-lawful.false

abbrev refuse : Verdict → Lookup
refuse v = refused v.number v.place

pub returns-then-not-lawful : goal.returns-then-not-lawful
returns-then-not-lawful c =
    let e = c.refusal.ensures ∙ ap refuse (c.verdict.ensures ∙ ap fault_verdict c.at_node.ensures) in
    let l = layout_of c.args.form in
    let f = format_of c.args.form in record {
      equal = rw (c.if-not-lawful.true) e;
      leaves = rw e (leaves l _ f 11 _ _ (sym (left-untouched l _ f 11 _ (Memᴰ.tail (Memᴰ.head refl)))));
    }

pub returns-in-Err : goal.returns-in-Err
returns-in-Err c =
    let e = c.in-Err.ensures.equal in
    let n = ap (λ (v : Verdict). v.number) e in
    let s = some_number c.in-Err.fault.refusal in record {
      equal = rw (lawful (goal.at.returns-in-Err c).After-check) (c.refusal-in-Err.ensures ∙ ap refuse (c.verdict-in-Err.ensures ∙ e) ∙ sym (by-refused _ _ _ _ (λ z. omega (arith, n ∙ z, s))));
      leaves = rw (c.refusal-in-Err.ensures, c.verdict-in-Err.ensures) c.in-Err.ensures.leaves;
    }

pub descend-requires : goal.descend-requires
descend-requires c = searchable _ c.requires _ (c.in-Ok.ensures.says.sound.0 refl).0

pub returns-in-Ok : goal.returns-in-Ok
returns-in-Ok c = record {
  equal = rw (lawful (goal.at.returns-in-Ok c).After-check) (c.descend.ensures ∙ sym (by-answers _ _ _ _ (sym (ap (λ (v : Verdict). v.number) c.in-Ok.ensures.equal))));
  leaves = descends _ _ _ _ _ _ c.descend.ensures c.in-Ok.ensures.leaves;
}
