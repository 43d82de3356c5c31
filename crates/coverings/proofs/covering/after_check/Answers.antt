-- `covering::after_check` meets its contract. Assumes nothing.
use Prim.Native.Nat.{ℕ}
use native.Mathlib.Omega.{arith}
use mathlib.Core.Path.{◌≡◌, sym, ap, ◌∙◌}
use lib.ListN.{length}
use Rattle.btree.specs.declared.Verdict.{Verdict}
use Rattle.btree.specs.Faults.{number_of}
use Rattle.btree.proofs.Faults.{some_number}
use Rattle.extents.specs.Reader.{checked}
use Rattle.coverings.specs.declared.answers.Source.TheVariants.{Extents}
use Rattle.coverings.specs.declared.answers.Mapping.TheVariants.{Refused}
use Rattle.coverings.proofs.Order.{after-refused, after-sound}
use Rattle.coverings.proofs.covering.after_check.Goals as goal

pub returns-in-Err : goal.returns-in-Err
returns-in-Err c =
    let e = c.in-Err.ensures.equal in
    let s = some_number c.in-Err.fault.refusal in
    let n : number_of c.in-Err.fault.refusal ≡ (checked c.args.extents.now (length c.args.work.now)).number = ap (λ (t : Verdict). t.number) e in record {
      equal =
          ap (λ (k : ℕ). Refused Extents k c.in-Err.fault.place) c.number.ensures
          ∙ ap (λ (t : Verdict). Refused Extents t.number t.place) e
          ∙ sym (after-refused _ _ _ (λ z. omega (arith, n ∙ z, s)));
      leaves = rw c.check.ensures.equal at c.check.ensures.leaves;
    }

pub returns-in-Ok : goal.returns-in-Ok
returns-in-Ok c =
    let e = c.in-Ok.ensures.equal in record {
      equal = sym (after-sound _ _ _ (ap (λ (t : Verdict). t.number) (sym e)));
      leaves = rw c.check.ensures.equal at c.check.ensures.leaves;
    }
