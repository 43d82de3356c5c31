-- `wrong_in` meets its contract. The loops' invariants: what is left from the byte, and from the bit in it, gives what all bytes give. Assumes nothing.
use mathlib.Core.Path.{◌≡◌, refl, sym, ap, ◌∙◌}
use mathlib.Core.Option.{some}
use Prim.Native.Nat.{◌+◌, ◌*◌}
use native.Mathlib.Omega.{arith}
use Rattle.map.proofs.Bits.{bit-right, bit-wrong, bits-end, byte_more, bytes-end, same-masked, masked_same, same_byte}
use Rattle.map.proofs.SameBytes.{after_same}
use Rattle.map.proofs.wrong_in.Goals as goal
use Rattle.map.proofs.wrong_in.Goals.{then-x-y+else-bits-test, else-x-y}

pub bytes-init : goal.bytes-init
bytes-init c =
    let a = c.args in
    let s = c.same_bytes-start.ensures in
    (refl, after_same a.map.now a.bits.now a.first _ s.0 s.1)

pub bits-init : goal.bits-init
bits-init c = (c.bytes.invariant.0, c.bytes.invariant.1 ∙ byte_more _ _ _ _ c.bytes-test.true)

pub bits-preserved : goal.bits-preserved
bits-preserved c =
    let j = c.bits.j in
    (c.bits.invariant.0, c.bits.invariant.1 ∙ bit-right _ _ _ j _ (omega arith) (same-masked _ _ _ _ j (omega arith) c.byte_at-y.ensures.0 c.if-x-j.false))

pub bytes-preserved : goal.bytes-preserved
bytes-preserved c =
    let b = c.bytes in
    elim c.if-x-y.branch [
      | then-x-y+else-bits-test w ↦ (w.found-is ∙ w.bits.invariant.0, w.bits.invariant.1 ∙ bits-end _ _ _ _ _ w.bits-test.false)
      | else-x-y w ↦ (w.found-is ∙ b.invariant.0, b.invariant.1 ∙ byte_more _ _ _ _ c.bytes-test.true ∙ same_byte _ _ _ _ (w.if-x-y.false ∙ c.byte_at-y.ensures.0))
    ]

pub returns-after-bytes : goal.returns-after-bytes
returns-after-bytes c = rw c.bytes.invariant.0 (sym (c.bytes.invariant.1 ∙ bytes-end _ _ _ _ c.bytes-test.false))

pub returns-then-x-j : goal.returns-then-x-j
returns-then-x-j c =
    let a = c.args in
    let i = c.bytes.i in
    let j = c.bits.j in
    let e : (a.first + i) * 8 + j ≡ 8 * (a.first + i) + j = omega arith in
    ap some e ∙ sym (c.bits.invariant.1 ∙ bit-wrong _ _ _ j _ (omega arith) (λ q. c.if-x-j.true (masked_same _ _ _ _ j (omega arith) c.byte_at-y.ensures.0 q)))
