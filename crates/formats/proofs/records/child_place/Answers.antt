-- `records::child_place` meets its contract. Assumes nothing.
use native.Mathlib.Omega.{arith}
use Rattle.btree.specs.Header.{view_of}
use Rattle.formats.proofs.records.child_place.Goals as goal

pub returns : goal.returns
unfolding view_of
returns c = grind arith
