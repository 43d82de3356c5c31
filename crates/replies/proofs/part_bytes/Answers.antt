-- `part_bytes` meets its contract. The loop keeps that the bytes before k are the image's, and the others 0. Assumes nothing.
use native.Mathlib.Omega.{arith}
use lib.ListN.{length-set, length-replicate}
use Rattle.replies.proofs.Data.{one_more, zeros-behind, zeros, part-filled}
use Rattle.replies.proofs.part_bytes.Goals as goal

pub loop-k-init : goal.loop-k-init
loop-k-init g c = (length-replicate g.row.N 0, λ j h. absurd (omega arith), λ j h. zeros g.row.N j)

pub loop-k-preserved : goal.loop-k-preserved
loop-k-preserved g c =
    let v = c.loop-k.invariant in (
      simp length-set v.0,
      one_more c.loop-k.«data» _ c.loop-k.k c.byte_at.result (omega (arith, v.0, c.min-len.ensures)) c.byte_at.ensures.0 v.1,
      zeros-behind c.loop-k.«data» c.loop-k.k c.byte_at.result v.2,
    )

pub returns : goal.returns
returns g c =
    let a = c.args in
    let v = c.loop-k.invariant in
    part-filled g.row.N a.size c.min-len.result a.at c.min.result a.image.now c.loop-k.«data» c.min.ensures c.min-len.ensures v.0 (λ j u. v.1 j (omega arith)) (λ j u. v.2 j (omega arith))
