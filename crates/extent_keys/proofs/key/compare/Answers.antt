-- `key::compare` meets its contract. Assumes nothing.
use native.Mathlib.Omega.{arith}
use Rattle.extent_keys.proofs.Order.{InRange, by-numbers, by-fields}
use Rattle.extent_keys.proofs.key.compare.Goals as goal
use Rattle.extent_keys.proofs.key.compare.Goals.{Start}

ranges : (c : Start) → InRange c.args.a × InRange c.args.b
ranges c = (record { fork = omega arith; start = omega arith }, record { fork = omega arith; start = omega arith })

pub returns : goal.returns
returns c =
    let (a, b) = ranges (goal.at.returns c).Start in
    let p = by-numbers c.args.a c.args.b _ a b (by-fields _ _ _ c.cmp.ensures) in
    record { equal = p.0; order = p.1.0; packed = p.1.1 }
