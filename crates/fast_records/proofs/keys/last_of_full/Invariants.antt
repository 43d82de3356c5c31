-- `keys::last_of_full` meets its contract. Assumes nothing.
use Prim.Native.Nat.{◌+◌, ◌*◌}
use mathlib.Core.Path.{◌≡◌}
use Rattle.image.specs.Bytes.{be64_at}
use Rattle.fast_records.proofs.Rising.{Climbs}
use Rattle.fast_records.proofs.keys.last_of_full.Given as goal

abbrev pub invariant-loop-turn : goal.invariant-loop-turn
invariant-loop-turn l = record {
  place : l.at ≡ l.first + 60 * l._turn;
  next : l.next ≡ be64_at l.image (l.at + 20);
  second : l.second ≡ be64_at l.image (l.at + 40);
  third : l.third ≡ be64_at l.image (l.at + 60);
  climbs : Climbs l.image l.first 20 (1 + 3 * l._turn) l.key l.notes;
}
