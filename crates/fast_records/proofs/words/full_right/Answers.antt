-- `words::full_right` meets its contract. Assumes nothing.
use native.Mathlib.Omega.{arith}
use mathlib.Core.Path.{◌≡◌, sym, ◌∙◌}
use Prim.Native.Nat.{ℕ, ◌+◌, ◌-◌, ◌*◌}
use borrow.Author.Count.{below_more}
use borrow.Author.Tests.{eqb-true}
use Rattle.image.specs.Bytes.{be16_at}
use Rattle.fast_records.proofs.Surely.{bytes-of}
use Rattle.fast_records.proofs.Fours.{two-right}
use Rattle.fast_records.proofs.words.full_right.Goals as goal

pub returns : goal.returns
returns c e i h =
    let a = c.args in
    let P : ℕ → Type 0 = λ j. be16_at a.image.now (a.end - 2 * j) ≡ 14 + j * 20 in
    let w = below_more P 20 (λ j l. c.loop-fours.invariant j (omega (arith, l, c.loop-fours-test.false))) (omega (arith, c.be16_in.ensures.0)) in
    let t = two-right a.image.now (bytes-of _ c.type_inv.image) (a.end - 44) 454 434 (omega arith) (sym c.be32_in.ensures ∙ eqb-true _ _ e) in
    let z : a.end - 44 + 2 ≡ a.end - 42 = omega (arith, c.requires.0) in
    below_more P 22 (below_more P 21 w (rw z at t.1)) t.0 i h
