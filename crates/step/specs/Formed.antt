-- What tests 5 and 6 at an entry come to, as the code has it.
-- Assumes nothing.
use Rattle.std.specs.Prelude.{◌≡◌, true, ℕ, Result, OnOk, IfErr}
use Rattle.std.proofs.Math.Option.{none}
use Rattle.btree.specs.declared.fault.Fault.{Fault}
use Rattle.btree.specs.Decide.{says}
use Rattle.btree.specs.Faults.{fault_verdict}
use Rattle.btree.specs.Tree.{View}
use Rattle.btree.specs.Walk.{Entry, test, wrong_key}

pub record Formed (v : View) (e : Entry) (r : Result (Unit {0}) Fault) : Type 0 where
  pub right : OnOk r (says (v.dec_well_formed e.node e.level) ≡ true)
  pub ordered : OnOk r (wrong_key v e.low e.high e.node ≡ none)
  -- else it is what all tests come to, of a fresh node
  pub wrong : IfErr r (λ f. (p : ℕ) → test v true p e ≡ fault_verdict f)
