-- The table's number of each refusal, and what a test of the code comes to as number and place.
-- Assumes nothing.
use Rattle.std.specs.Prelude.{ℕ, Result, Ok, Err}
use Rattle.btree.specs.declared.Place.{Place}
use Rattle.btree.specs.declared.Verdict.{Verdict}
use Rattle.btree.specs.declared.fault.Refusal.{Refusal}
use Rattle.btree.specs.declared.fault.Refusal.TheVariants as refusal
use Rattle.btree.specs.declared.fault.Fault.{Fault}
use Rattle.btree.specs.Walk.{fine, fails}

abbrev pub number_of : Refusal → ℕ
number_of refusal.ImageLength = 1
number_of refusal.HeaderNode = 2
number_of refusal.MapChain = 3
number_of refusal.ChildNumber = 4
number_of refusal.NodeForm = 5
number_of refusal.Key = 6
number_of refusal.SiblingLink = 7
number_of refusal.Totals = 8
number_of refusal.MapBit = 9
number_of refusal.FreeCount = 10
number_of refusal.AskedKey = 11
number_of refusal.Absent = 12
number_of refusal.FewResults = 15
number_of refusal.FewWorkingBytes = 16
number_of refusal.Uncovered = 17
number_of refusal.VolumeBlock = 18
number_of refusal.Row = 19
number_of refusal.FewNodes = 20
number_of refusal.NoFile = 24
number_of refusal.Form = 25

abbrev pub fault_at : Refusal → Place → Fault
fault_at r p = record { refusal = r; place = p }

-- a fault as number and place
abbrev pub fault_verdict : Fault → Verdict
fault_verdict f = fails (number_of f.refusal) f.place

-- a test that is passed or fails: no refusal has the number 0, so each verdict is that of one result
abbrev pub verdict_of : {A : Type 0} → Result A Fault → Verdict
verdict_of (Ok a) = fine
verdict_of (Err f) = fault_verdict f
