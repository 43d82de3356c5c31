-- `settled` meets its contract: after a fault the bytes are cleared, and else they are the bitmap of the nodes reached. Assumes nothing.
use mathlib.Core.Path.{sym, ap, ◌∙◌}
use mathlib.Core.Logic.{⊎_elim}
use Prim.Native.Nat.{ℕ}
use native.Mathlib.Omega.{arith}
use lib.ListN.{replicate}
use Rattle.btree.specs.Work.{needed_left}
use Rattle.btree.proofs.Work.{left-zeros, left-bits}
use Rattle.frame.specs.Form.{layout_of}
use Rattle.frame.proofs.Forms.{fits}
use Rattle.formats.specs.Format.{format_of, view}
use Rattle.btree.specs.Tree.{reached}
use Rattle.chain.specs.Frame.{Marks}
use Rattle.checks.proofs.Answers.{failed, passed, tested-range}
use Rattle.checks.proofs.settled.Goals as goal

pub returns-then-is_err : goal.returns-then-is_err
returns-then-is_err c =
    let e = c.tests-t.ensures.is in
    let n = sym c.is_err.ensures.value ∙ c.if-is_err.true in
    record {
      is = e;
      left =
          c.clear.ensures
          ∙ ap (λ (k : ℕ). replicate k 0) (c.tests-t.auto.bits ∙ c.requires.enough)
          ∙ ⊎_elim (λ z. absurd (failed _ n z)) (λ (a, b). sym (left-zeros (layout_of c.args.form) c.args.image.now (format_of c.args.form) _ a b)) (tested-range _ (format_of c.args.form) (fits c.args.form c.requires.fair) _ c.requires.lengths _ e);
    }

pub returns-else-is_err : goal.returns-else-is_err
returns-else-is_err c =
    let p = passed {P = Marks c.tests-t.new.bits (reached (view c.args.form c.args.image.now))} c.tests-t.result (sym c.is_err.ensures.value ∙ c.if-is_err.false) c.tests-t.ensures.used in
    record {
      is = c.tests-t.ensures.is;
      left =
          left-bits (layout_of c.args.form) c.args.image.now (format_of c.args.form) _ (c.tests-t.auto.bits ∙ c.requires.enough) (λ i. omega (arith, c.type_inv.bits i)) p.1
          ∙ ap (needed_left (layout_of c.args.form) c.args.image.now (format_of c.args.form)) (sym p.0);
    }
