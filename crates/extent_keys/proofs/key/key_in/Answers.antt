-- `key::key_in` meets its contract. Assumes nothing.
use mathlib.Core.Path.{sym}
use native.Mathlib.Omega.{arith}
use Rattle.extent_keys.specs.Key.{rank, rank_of}
use Rattle.extent_keys.proofs.Order.{key-hfs, key-plus}
use Rattle.extent_keys.proofs.key.key_in.Goals as goal

pub returns-in-Hfs : goal.returns-in-Hfs
unfolding rank rank_of
returns-in-Hfs c = let a = c.args in rw (key-hfs a.form a.image.now a.at (sym c.in-Hfs.ensures)) (omega arith)

pub returns-in-HfsPlus : goal.returns-in-HfsPlus
unfolding rank rank_of
returns-in-HfsPlus c = let a = c.args in rw (key-plus a.form a.image.now a.at c.in-HfsPlus.ensures) (omega arith)
