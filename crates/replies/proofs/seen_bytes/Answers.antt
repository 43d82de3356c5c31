-- `seen_bytes` meets its contract. Assumes nothing.
use Rattle.std.proofs.Common.{arith}
use Rattle.replies.proofs.Data.{zeros-padded}
use Rattle.replies.proofs.seen_bytes.Goals as goal

pub returns-in-NotSeen : goal.returns-in-NotSeen
returns-in-NotSeen g c = grind (arith, zeros-padded)
