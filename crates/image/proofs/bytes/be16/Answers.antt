-- `bytes::be16` meets its contract: where the image ends before the second byte, that byte is 0. Assumes nothing.
use Prim.Native.Nat.{◌+◌, ◌≤◌}
use native.Mathlib.Omega.{arith}
use lib.ListN.{length}
use Rattle.image.specs.Bytes.{be16_at}
use Rattle.image.proofs.Laws.{byte-beyond}
use Rattle.image.proofs.bytes.be16.Goals as goal
use Rattle.image.proofs.bytes.be16.Goals.{else-image-ge2-via-then-image-ge2+else-at-image, else-image-ge2-via-else-image-ge2}

pub returns : goal.returns
unfolding be16_at
returns c =
    let a = c.args in
    let h : length a.image.now ≤ a.at + 1 = elim c.else-image-ge2.branch [ else-image-ge2-via-then-image-ge2+else-at-image w ↦ omega arith | else-image-ge2-via-else-image-ge2 w ↦ omega arith ] in
    omega (arith, byte-beyond a.image.now (a.at + 1) h)
