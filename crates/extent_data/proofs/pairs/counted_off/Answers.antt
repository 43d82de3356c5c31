-- `pairs::counted_off` meets its contract. Assumes nothing.
use native.Mathlib.Omega.{arith}
use Rattle.extent_data.proofs.Counted.{in-first, in-second, in-third}
use Rattle.extent_data.proofs.pairs.counted_off.Goals as goal

pub returns-then-number-count1 : goal.returns-then-number-count1
returns-then-number-count1 c = let a = c.args in omega (arith, in-first a.extents a.number (omega arith))

pub returns-then-rest-count2 : goal.returns-then-rest-count2
returns-then-rest-count2 c = let a = c.args in omega (arith, in-second a.extents a.number (omega arith) (omega arith))

pub returns : goal.returns
returns c = let a = c.args in omega (arith, in-third a.extents a.number (omega arith) (omega arith))
