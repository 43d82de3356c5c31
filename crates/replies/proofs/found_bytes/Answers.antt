-- `found_bytes` meets its contract. Assumes nothing.
use Rattle.std.proofs.Common.{arith}
use Rattle.replies.proofs.Data.{zeros-padded}
use Rattle.replies.proofs.found_bytes.Goals as goal

pub returns-in-Absent : goal.returns-in-Absent
returns-in-Absent g c = grind (arith, zeros-padded)
