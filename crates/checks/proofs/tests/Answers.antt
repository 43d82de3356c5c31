-- `tests` meets its contract: each fault is found where it is the first. Assumes nothing.
use mathlib.Core.Bool.{true}
use mathlib.Core.Path.{◌≡◌, sym, ap, ◌∙◌}
use native.Mathlib.Omega.{arith}
use Rattle.std.specs.Prelude.{Result, Ok, Err, OnOk}
use Rattle.btree.specs.Tests.{dec_lengths, dec_header_node}
use Rattle.btree.specs.Walk.{fine}
use Rattle.btree.specs.Decide.{says}
use Rattle.btree.specs.declared.Verdict.{Verdict}
use Rattle.btree.specs.declared.fault.Fault.{Fault}
use Rattle.btree.specs.Faults.{fault_verdict}
use Rattle.btree.proofs.Decisions.{says-yes}
use Rattle.btree.proofs.Faults.{some_number}
use Rattle.btree.proofs.Ordered.{fault-2, fault-3, fault-tree, fault-map}
use Rattle.frame.specs.Form.{key_length, layout_of}
use Rattle.formats.specs.Format.{format_of}
use Rattle.std.proofs.lemmas.Result.{err_from_is_err_and}
use Rattle.checks.proofs.Framing.{room, framed, begins}
use Rattle.checks.proofs.tests.Goals as goal
use Rattle.checks.proofs.tests.Goals.{Else-not-header_right, Start}

-- what each test that passed says
length-passed : (c : Start) → says (dec_lengths (layout_of c.args.form) c.args.image.now) ≡ true
length-passed c = says-yes (dec_lengths (layout_of c.args.form) c.args.image.now) c.requires.lengths

header-passed : (c : Else-not-header_right) → let a = c.args in says (dec_header_node (layout_of a.form) a.image.now (key_length a.form)) ≡ true
header-passed c = sym c.header_right.ensures ∙ c.if-not-header_right.false

no-number : (t : Verdict) → fine ≡ t → t.number ≡ 0
no-number t e = sym (ap (λ (v : Verdict). v.number) e)

a-number : (f : Fault) (t : Verdict) → fault_verdict f ≡ t → t.number ≡ 0 → ⊥
a-number f t e z = let n = some_number f.refusal in let q = ap (λ (v : Verdict). v.number) e in omega arith

whatever : {P : Type 0} (r : Result (Unit {0}) Fault) → P → OnOk r P
whatever (Ok u) p = p
whatever (Err f) p = tt

pub returns-then-not-header_right : goal.returns-then-not-header_right
returns-then-not-header_right c =
    rw c.at_node.ensures
    (record {
      is = sym (fault-2 (layout_of c.args.form) c.args.image.now (format_of c.args.form) (length-passed (goal.at.returns-then-not-header_right c).Start) (sym c.header_right.ensures ∙ c.if-not-header_right.true));
      used = tt;
    })

pub map_chain-requires : goal.map_chain-requires
map_chain-requires c = room c.args.form c.args.image.now c.args.bits.now c.requires (header-passed (goal.at.map_chain-requires c).Else-not-header_right)

pub returns-in_err-chained : goal.returns-in_err-chained
returns-in_err-chained c =
    let p = err_from_is_err_and c.from_residual.result c.from_residual.ensures.1 in
    let e = c.in_err-chained.ensures.verdict in
    let s = goal.at.returns-in_err-chained c in
    rw (p.1, p.2)
    (record { is = e ∙ sym (fault-3 (layout_of c.args.form) c.args.image.now (format_of c.args.form) (length-passed s.Start) (header-passed s.Else-not-header_right) (a-number _ _ e)); used = tt })

pub tree_tests-requires : goal.tree_tests-requires
tree_tests-requires c =
    let r = c.in_ok-chained.ensures in
    begins c.args.form c.args.image.now c.args.bits.now c.requires (header-passed (goal.at.tree_tests-requires c).Else-not-header_right) (no-number _ r.verdict) _ c.map_chain.auto.bits _ r.marks r.count

pub returns-in_err-met : goal.returns-in_err-met
returns-in_err-met c =
    let p = err_from_is_err_and c.from_residual-in_err-met.result c.from_residual-in_err-met.ensures.1 in
    let e = c.in_err-met.ensures.verdict in
    let s = goal.at.returns-in_err-met c in
    rw (p.1, p.2)
    (record {
      is =
          e
          ∙ sym (fault-tree (layout_of c.args.form) c.args.image.now (format_of c.args.form) (length-passed s.Start) (header-passed s.Else-not-header_right) (no-number _ c.in_ok-chained.ensures.verdict) (a-number _ _ e));
      used = tt;
    })

pub map_tests-requires : goal.map_tests-requires
map_tests-requires c =
    framed c.args.form c.args.image.now c.args.bits.now c.requires (header-passed (goal.at.map_tests-requires c).Else-not-header_right) (no-number _ c.in_ok-chained.ensures.verdict)

pub returns : goal.returns
returns c =
    let t = c.in_ok-met.ensures in
    let s = goal.at.returns c in
    record {
      is =
          c.map_tests.ensures _ t.marks t.count
          ∙ sym (fault-map (layout_of c.args.form) c.args.image.now (format_of c.args.form) (length-passed s.Start) (header-passed s.Else-not-header_right) (no-number _ c.in_ok-chained.ensures.verdict) (no-number _ t.verdict));
      used = whatever _ t.marks;
    }
