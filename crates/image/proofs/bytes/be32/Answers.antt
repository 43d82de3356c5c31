-- `bytes::be32` meets its contract: near the end of the image the number is made of its two halves. Assumes nothing.
use Prim.Native.Nat.{◌+◌}
use native.Mathlib.Omega.{arith}
use Rattle.image.proofs.Laws.{be16-beyond, halves}
use Rattle.image.proofs.bytes.be32.Goals as goal

pub returns-then-at-image-2 : goal.returns-then-at-image-2
returns-then-at-image-2 c =
    let bytes = c.args.image.now in
    let at = c.args.at in
    omega (arith, halves bytes at, be16-beyond bytes at (omega arith), be16-beyond bytes (at + 2) (omega arith))

pub returns : goal.returns
returns c =
    let a = c.args in
    omega (arith, halves a.image.now a.at)
