-- What a check answers and leaves, by its tests.
-- Assumes nothing.
use mathlib.Core.Path.{◌≡◌, refl, sym, ◌∙◌}
use mathlib.Core.Bool.{true, false}
use native.Mathlib.Omega.{arith}
use Rattle.std.specs.Prelude.{Result, Ok, Err, is_err, OnOk}
use Rattle.btree.specs.declared.fault.Fault.{Fault}
use Rattle.btree.specs.Faults.{verdict_of}
use Rattle.btree.proofs.Faults.{some_number}
use mathlib.Core.Logic.{◌⊎◌}
use mathlib.Core.List.{List, ◌++◌}
use Prim.Native.Nat.{ℕ, ◌≤◌}
use lib.ListN.{length, drop}
use Rattle.btree.specs.declared.Verdict.{Verdict}
use Rattle.btree.specs.Lists.{◌∈◌}
use Rattle.btree.specs.Layout.{Layout, Fits}
use Rattle.btree.specs.Header.{Format}
use Rattle.btree.specs.Image.{Lengths}
use Rattle.btree.specs.Tests.{dec_lengths, verdict}
use Rattle.btree.specs.Work.{untouching, needed, checked, CheckSays, needed_left, Leaves}
use Rattle.btree.proofs.Decisions.{says-yes}
use Rattle.btree.proofs.Ranged.{Ranged, verdict-ranged}
use Rattle.btree.proofs.Work.{left-untouched, left-tested, leaves}
use Rattle.btree.proofs.Checked.{checked-on, check-says}

-- what a result that is an error says, and one that is none
pub failed : (r : Result (Unit {0}) Fault) → is_err r ≡ true → (verdict_of r).number ≡ 0 → ⊥
failed (Ok u) e z = let y : ◌≡◌ {A = ℕ} 0 1 = cc in omega arith
failed (Err f) e z = let n = some_number f.refusal in omega arith

pub passed : {P : Type 0} (r : Result (Unit {0}) Fault) → is_err r ≡ false → OnOk r P → ((verdict_of r).number ≡ 0) × P
passed (Ok u) e p = (refl, p)
passed (Err f) e p = let y : ◌≡◌ {A = ℕ} 0 1 = cc in absurd (omega arith)

module _ (l : Layout) (f : Format) (fits : Fits l) where
  -- which numbers tests 2 to 10 give
  pub tested-range : (img : List ℕ) → Lengths l img → (r : Verdict) → r ≡ verdict l img f → (r.number ≡ 0) ⊎ ((2 ≤ r.number) × (r.number ≤ 10))
  tested-range img h r e = let q : Ranged r = rw e (verdict-ranged l img f (says-yes (dec_lengths l img) h)) in q.range

  -- what a check promises
  abbrev pub Promised : List ℕ → List ℕ → List ℕ → Verdict → Type 0
  Promised img entry exit r =
      (r ≡ checked l img f (length entry)) × (CheckSays l img f (length entry) r × Leaves l img f r.number entry exit)

  -- a refusal before the bytes are used
  pub refused-early : (img work : List ℕ) (r : Verdict) → r ≡ checked l img f (length work) → r.number ∈ untouching → Promised img work work r
  refused-early img work r e m =
      (e, (check-says l img f (length work) fits r e, leaves l img f r.number work work (sym (left-untouched l img f r.number work m))))

  -- the other tests were made
  pub tested : (img work bits : List ℕ) (r : Verdict) → Lengths l img → needed l img ≤ length work → r ≡ verdict l img f → bits ≡ needed_left l img f r.number
      → Promised img work (bits ++ drop (needed l img) work) r
  tested img work bits r w h e q =
      let k = e ∙ sym (checked-on l img f (length work) (says-yes (dec_lengths l img) w) h) in (
        k,
        (
          check-says l img f (length work) fits r k,
          leaves l img f r.number work (bits ++ drop (needed l img) work) (rw q (sym (left-tested l img f r.number work (tested-range img w r e)))),
        ),
      )
