-- `records::child_of` meets its contract. Assumes nothing.
use native.Mathlib.Omega.{arith}
use Rattle.btree.specs.Header.{view_of}
use Rattle.formats.proofs.records.child_of.Goals as goal

pub returns : goal.returns
unfolding view_of
returns c = grind arith
