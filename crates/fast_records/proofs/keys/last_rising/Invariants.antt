-- `keys::last_rising` meets its contract. Assumes nothing.
use Prim.Native.Nat.{◌+◌, ◌*◌}
use mathlib.Core.Path.{◌≡◌}
use Rattle.image.specs.Bytes.{be64_at}
use Rattle.fast_records.proofs.Rising.{Climbs}
use Rattle.fast_records.proofs.keys.last_rising.Given as goal

abbrev pub invariant-loop-i : goal.invariant-loop-i
invariant-loop-i l = record { place : l.at ≡ l.first + l._i * l.step; next : l.next ≡ be64_at l.image l.at; climbs : Climbs l.image l.first l.step l._i l.key l.notes }
