-- What a test of the code says: a bool where the paper decides a fact, a result where it has a verdict.
-- Assumes nothing.
use mathlib.Core.Path.{◌≡◌, refl}
use mathlib.Core.Bool.{Bool, true, false}
use Prim.Native.Nat.{◌<◌}
use native.Mathlib.Omega.{arith}
use Rattle.btree.specs.declared.Verdict.{Verdict}
use Rattle.btree.specs.declared.fault.Refusal.{Refusal}
use Rattle.btree.specs.declared.fault.Refusal.TheVariants as refusal
use Rattle.btree.specs.declared.fault.Fault.{Fault}
use Rattle.btree.specs.Decide.{says}
use Rattle.btree.specs.Walk.{or_else}
use Rattle.btree.specs.Faults.{number_of, fault_verdict}
use Rattle.btree.proofs.Ordered.{if-other}

-- a bool that is true exactly where the fact holds
pub says_if : {P : Type 0} (d : Dec P) (b : Bool) → (b ≡ true → P) → (P → b ≡ true) → b ≡ says d
unfolding says
says_if (yes p) b f g = g p
says_if (no n) true f g = absurd (n (f refl))
says_if (no n) false f g = refl

-- no refusal has the number 0
pub some_number : (r : Refusal) → 0 < number_of r
some_number refusal.ImageLength = omega arith
some_number refusal.HeaderNode = omega arith
some_number refusal.MapChain = omega arith
some_number refusal.ChildNumber = omega arith
some_number refusal.NodeForm = omega arith
some_number refusal.Key = omega arith
some_number refusal.SiblingLink = omega arith
some_number refusal.Totals = omega arith
some_number refusal.MapBit = omega arith
some_number refusal.FreeCount = omega arith
some_number refusal.AskedKey = omega arith
some_number refusal.Absent = omega arith
some_number refusal.FewResults = omega arith
some_number refusal.FewWorkingBytes = omega arith
some_number refusal.Uncovered = omega arith
some_number refusal.VolumeBlock = omega arith
some_number refusal.Row = omega arith
some_number refusal.FewNodes = omega arith
some_number refusal.NoFile = omega arith
some_number refusal.Form = omega arith

-- the first fault is the answer, whatever follows
pub fault-stays : (f : Fault) (r : Verdict) → or_else (fault_verdict f) r ≡ fault_verdict f
fault-stays f r = let p = some_number f.refusal in if-other (number_of f.refusal) r (fault_verdict f) (λ e. omega arith)
