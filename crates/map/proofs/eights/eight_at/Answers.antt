-- `eights::eight_at` meets its contract. Assumes nothing.
use native.Mathlib.Omega.{arith}
use mathlib.Core.Path.{sym}
use Rattle.image.specs.Bytes.{be64_at}
use Rattle.map.proofs.SameBytes.{eight-beyond}
use borrow.Author.Rules.{rules}
use Rattle.map.proofs.eights.eight_at.Goals as goal

pub returns-then-at-bits-2 : goal.returns-then-at-bits-2
returns-then-at-bits-2 c = let a = c.args in sym (eight-beyond a.bits.now a.at (omega (arith, c.if-at-bits-2.true)))

pub returns : goal.returns
unfolding be64_at
returns c = search rules
