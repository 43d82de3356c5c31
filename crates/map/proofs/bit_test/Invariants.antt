-- `bit_test` meets its contract. The loop's invariant: what is left from `node` on gives what the whole map gives. Assumes nothing.
use Prim.Native.Nat.{◌-◌}
use Rattle.btree.specs.Header.{total_of}
use Rattle.frame.specs.Form.{layout_of}
use Rattle.map.proofs.Searched.{Searched}
use Rattle.map.proofs.bit_test.Given as goal

abbrev pub invariant-loop : goal.invariant-loop
invariant-loop l = Searched (layout_of l.form) l.image l.bits l.first l.node (total_of l.image - l.counter)
