-- `eights::same_bytes` meets its contract. Assumes nothing.
use native.Mathlib.Omega.{arith}
use mathlib.Core.Path.{◌≡◌, sym, ◌∙◌}
use Prim.Native.Nat.{◌+◌, ◌*◌}
use Rattle.map.proofs.SameBytes.{eight-more}
use Rattle.map.proofs.eights.same_bytes.Goals as goal

pub loop-eight-preserved : goal.loop-eight-preserved
loop-eight-preserved c =
    let a = c.args in
    let i = c.loop-eight.eight in
    let e : 8 * (i + 1) ≡ 8 * i + 8 = omega arith in
    rw e
    (eight-more a.map.now a.bits.now a.first (λ k. omega (arith, c.type_inv.map k)) (λ k. omega (arith, c.type_inv.bits k)) (8 * i) c.loop-eight.invariant
    (sym c.be64_in.ensures ∙ c.if-be64_in-eight_at.false ∙ c.eight_at.ensures))
