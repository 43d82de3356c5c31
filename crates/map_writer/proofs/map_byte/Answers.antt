-- `map_byte` meets its contract. Assumes nothing.
use native.Mathlib.Omega.{arith}
use Rattle.map_writer.proofs.Steps.{byte-some}
use Rattle.map_writer.proofs.map_byte.Goals as goal

pub returns-in-0 : goal.returns-in-0
returns-in-0 c = byte-some _ _ 0 (omega arith)

pub returns-in-1 : goal.returns-in-1
returns-in-1 c = byte-some _ _ 1 (omega arith)

pub returns-in-2 : goal.returns-in-2
returns-in-2 c = byte-some _ _ 2 (omega arith)

pub returns-in-3 : goal.returns-in-3
returns-in-3 c = byte-some _ _ 3 (omega arith)

pub returns-in-4 : goal.returns-in-4
returns-in-4 c = byte-some _ _ 4 (omega arith)

pub returns-in-5 : goal.returns-in-5
returns-in-5 c = byte-some _ _ 5 (omega arith)

pub returns-in-6 : goal.returns-in-6
returns-in-6 c = byte-some _ _ 6 (omega arith)

pub returns-in-7 : goal.returns-in-7
returns-in-7 c = byte-some _ _ 7 (omega arith)

pub returns-in_default : goal.returns-in_default
returns-in_default c = byte-some _ _ 8 (omega arith)
