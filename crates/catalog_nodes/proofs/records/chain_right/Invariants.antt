-- `records::chain_right` meets its contract. The loop's invariant: `at` is where record i starts, and all before it are right. Assumes nothing.
use mathlib.Core.Path.{◌≡◌}
use Prim.Native.Nat.{ℕ, suc, ◌<◌}
use Rattle.frame.specs.Kinds.{kind_number}
use Rattle.catalog_nodes.specs.Node.{record_end, RecordRight, word_at}
use Rattle.catalog_nodes.proofs.records.chain_right.Given as goal

abbrev pub invariant-loop-i : goal.invariant-loop-i
invariant-loop-i l =
    let kind = kind_number l.fn.kind in
    (l.at ≡ word_at l.form l.image l.node l.i) × (l.at < 200000000000000) × ((j : ℕ) → j < l.i → (word_at l.form l.image l.node (suc j) ≡ record_end l.image kind (word_at l.form l.image l.node j)) × RecordRight l.image kind (word_at l.form l.image l.node j))
