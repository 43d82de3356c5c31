-- `bytes::bytes_from` meets its contract. Assumes nothing.
use Rattle.std.proofs.Common.{◌<◌, ◌≢◌, length, arith, get_or-set_other, get_or-set_same, length-set, below_more}
use Rattle.image.proofs.bytes.bytes_from.Goals as goal

pub loop-i-preserved : goal.loop-i-preserved
loop-i-preserved g c =
    let l = c.loop-i in
    let f = l.invariant in
    let lt : l.i < length l.byte-items = omega (arith, f.0, c.loop-i-test.true) in (
      simp length-set f.0,
      below_more _ _
          (λ k h. let ne : k ≢ l.i = omega arith in rw get_or-set_other (f.1 k h))
          (rw get_or-set_same c.byte_at.ensures.0),
    )
