-- `covering::covers` meets its contract. Assumes nothing.
use mathlib.Core.Path.{refl, sym}
use Prim.Native.Nat.{◌+◌}
use native.Mathlib.Omega.{arith}
use Rattle.btree.proofs.Decisions.{says-no}
use Rattle.btree.proofs.Telling.{tells-says, tells-less}
use Rattle.coverings.specs.Covered.{dec_covers}
use Rattle.coverings.proofs.covering.covers.Goals as goal

pub returns-then-found-file : goal.returns-then-found-file
returns-then-found-file c = sym (says-no (dec_covers _ _ _ _) (λ q. c.if-found-file.true q.same_file))

pub returns-then-found-fork : goal.returns-then-found-fork
returns-then-found-fork c = sym (says-no (dec_covers _ _ _ _) (λ q. c.if-found-fork.true q.same_fork))

pub returns-then-found-file_block : goal.returns-then-found-file_block
returns-then-found-file_block c = sym (says-no (dec_covers _ _ _ _) (λ q. omega (arith, c.if-found-file_block.true, q.from)))

pub returns : goal.returns
returns c =
    let a = c.args in
    let n = a.found.start + c.block_count.result in
    tells-says _ (dec_covers a.found a.file a.fork a.file_block) (tells-less a.file_block n refl (λ l. l) (λ l. l))
    (λ l. record { same_file = c.if-found-file.false; same_fork = c.if-found-fork.false; from = omega (arith, c.if-found-file_block.false); past = rw c.block_count.ensures.0 at l })
    (λ q. rw c.block_count.ensures.0 q.past)
