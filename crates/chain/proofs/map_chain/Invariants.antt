-- `map_chain` meets its contract. The loop's invariant: what is left from `last` on gives what all of the chain gives. Assumes nothing.
use Prim.Native.Nat.{◌-◌}
use Rattle.btree.specs.Header.{total_of}
use Rattle.frame.specs.Form.{layout_of}
use Rattle.chain.proofs.Links.{Passed}
use Rattle.chain.proofs.map_chain.Given as goal

abbrev pub invariant-loop : goal.invariant-loop
invariant-loop l = Passed (layout_of l.form) l.image l.bits l.nodes l.last (total_of l.image - l.counter)
