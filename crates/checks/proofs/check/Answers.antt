-- `check` meets its contract: the tests after 16 have the needed bytes alone. Assumes nothing.
use mathlib.Core.Bool.{true}
use mathlib.Core.Path.{◌≡◌, refl, sym, ◌∙◌}
use mathlib.Core.List.Memᴰ
use mathlib.Core.List.{◌++◌}
use Prim.Native.Nat.{◌-◌, ◌≤◌}
use native.Mathlib.Omega.{arith}
use lib.ListN.{length, drop}
use lib.Seq.{length-take-le}
use Rattle.btree.specs.Faults.{verdict_of}
use Rattle.btree.specs.Decide.{says}
use Rattle.btree.specs.Tests.{dec_lengths}
use Rattle.btree.specs.Work.{needed}
use Rattle.btree.proofs.Decisions.{said}
use Rattle.btree.proofs.Checked.{checked-1, checked-16}
use Rattle.frame.specs.Form.{layout_of}
use Rattle.frame.proofs.Forms.{fits}
use Rattle.formats.specs.Format.{format_of}
use Rattle.checks.proofs.Answers.{Promised, refused-early, tested}
use Rattle.checks.proofs.check.Goals as goal
use Rattle.checks.proofs.check.Goals.{Else-not-length_right}

-- the length is right
lengths : (c : Else-not-length_right) → let a = c.args in says (dec_lengths (layout_of a.form) a.image.now) ≡ true
lengths c = sym c.length_right.ensures ∙ c.if-not-length_right.false

pub returns-then-not-length_right : goal.returns-then-not-length_right
returns-then-not-length_right c =
    let p =
    refused-early _ (format_of c.args.form) (fits c.args.form c.needed_bytes-need.ensures.1) _ c.args.work.now _ (sym (checked-1 _ c.args.image.now (format_of c.args.form) _ (sym c.length_right.ensures ∙ c.if-not-length_right.true))) (Memᴰ.tail (Memᴰ.tail (Memᴰ.tail (Memᴰ.head refl))))
    in
    rw c.at_node.ensures (record { equal = p.0; says = p.1.0; leaves = p.1.1 })

pub returns-then-lent-need : goal.returns-then-lent-need
returns-then-lent-need c =
    let p =
    refused-early _ (format_of c.args.form) (fits c.args.form c.needed_bytes-need.ensures.1) _ c.args.work.now _ (sym (checked-16 _ c.args.image.now (format_of c.args.form) _ (lengths (goal.at.returns-then-lent-need c).Else-not-length_right) (omega (arith, c.if-lent-need.true, c.needed_bytes-need.ensures.0)))) (Memᴰ.tail (Memᴰ.tail (Memᴰ.tail (Memᴰ.tail (Memᴰ.head refl)))))
    in
    rw c.at_node-then-lent-need.ensures (record { equal = p.0; says = p.1.0; leaves = p.1.1 })

pub settled-requires : goal.settled-requires
settled-requires c =
    let n = c.needed_bytes-need in
    record {
      fair = n.ensures.1;
      lengths = said (dec_lengths _ _) (lengths (goal.at.settled-requires c).Else-not-length_right);
      enough = length-take-le (n.result - 0) _ (omega (arith, c.if-lent-need.false)) ∙ omega (arith, n.ensures.0);
    }

pub returns : goal.returns
returns c =
    let n = c.needed_bytes-need in
    let a = c.args in
    let h : needed (layout_of a.form) a.image.now ≤ length a.work.now = omega (arith, c.if-lent-need.false, n.ensures.0) in
    let k : n.result - 0 ≡ needed (layout_of a.form) a.image.now = omega (arith, n.ensures.0) in
    let w : Promised (layout_of a.form) (format_of a.form) (fits a.form n.ensures.1) a.image.now a.work.now (c.settled.new.bits ++ drop (n.result - 0) a.work.now) (verdict_of c.settled.result) =
    rw k (tested (layout_of a.form) (format_of a.form) (fits a.form n.ensures.1) a.image.now a.work.now c.settled.new.bits (verdict_of c.settled.result) (said (dec_lengths _ _) (lengths (goal.at.returns c).Else-not-length_right)) h c.settled.ensures.is c.settled.ensures.left)
    in
    let p = w in record { equal = p.0; says = p.1.0; leaves = p.1.1 }
