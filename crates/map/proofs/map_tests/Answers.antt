-- `map_tests` meets its contract: test 9 finds what the search found, and test 10 compares the counts. Assumes nothing.
use native.Mathlib.Omega.{arith}
use Rattle.std.proofs.lemmas.Result.{err_from_is_err_and}
use Rattle.map.proofs.MapTests.{fault9, fault10, map-fine}
use Rattle.map.proofs.map_tests.Goals as goal

pub returns-in_err-bit_test : goal.returns-in_err-bit_test
returns-in_err-bit_test c = λ ns k n. let p = err_from_is_err_and c.from_residual.result c.from_residual.ensures.1 in rw (p.1, p.2) (fault9 _ _ _ ns k _ c.in_err-bit_test.ensures)

pub returns-then-nodes-free : goal.returns-then-nodes-free
returns-then-nodes-free c = λ ns k n. rw c.at_node.ensures (fault10 _ _ _ ns k c.in_ok-bit_test.ensures (λ q. omega arith))

pub returns : goal.returns
returns c = λ ns k n. map-fine _ _ _ ns k c.in_ok-bit_test.ensures (omega arith)
