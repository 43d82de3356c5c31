-- `records::keys_lawful` meets its contract. Assumes nothing.
use Prim.Native.Nat.{ℕ, ◌+◌, ◌*◌, ◌<◌, ◌≤◌}
use mathlib.Core.Path.{◌≡◌}
use Rattle.frame.specs.Kinds.{kind_number}
use Rattle.extent_nodes.specs.Records.{start_at, KeyLaw}
use Rattle.extent_nodes.proofs.records.keys_lawful.Given as goal

abbrev pub invariant-loop-i : goal.invariant-loop-i
invariant-loop-i l =
    let kind = kind_number l.fn.kind in
    (l.at ≡ start_at l.fn.form kind l.node l._i) × (l.at ≤ 200000000000000 + 102 * l._i) × ((j : ℕ) → j < l._i → KeyLaw l.fn.form l.image (start_at l.fn.form kind l.node j))
