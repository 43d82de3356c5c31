-- `names::compare_names` meets its contract. The loop's invariant: the names compare as what is left of them. Assumes nothing.
use mathlib.Core.Path.{◌≡◌}
use Prim.Native.Nat.{◌+◌}
use lib.ListN.{length}
use Rattle.std.specs.Slice.Iter.{iter_rest}
use Rattle.std.specs.Iterator.Adapters.{zip_first, zip_second}
use Rattle.catalog_keys.specs.Key.{names}
use Rattle.catalog_keys.proofs.names.compare_names.Given as goal

abbrev pub invariant-loop-x : goal.invariant-loop-x
invariant-loop-x l =
    let first = iter_rest (zip_first l.x-iterator) in
    let second = iter_rest (zip_second l.x-iterator) in
    (names l.a l.b ≡ names first second) × (length l.a + length second ≡ length l.b + length first)
