-- `key::is_below` meets its contract: the start block has four bytes. Assumes nothing.
use native.Mathlib.Omega.{arith}
use Rattle.extent_keys.specs.Key.{rank_of}
use Rattle.std.proofs.lemmas.Bool.Decides.{nat_tests}
use Prim.Native.Nat.{◌<◌}
use Rattle.extent_keys.proofs.key.is_below.Goals as goal
use Rattle.extent_keys.proofs.key.is_below.Goals.{Start}

ranges : (c : Start) → (c.args.a.start < 4294967296) × (c.args.b.start < 4294967296)
ranges c = (omega arith, omega arith)

pub returns : goal.returns
unfolding rank_of
returns c = let r = ranges (goal.at.returns c).Start in grind (arith, nat_tests, r.0, r.1)
