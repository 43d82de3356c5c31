-- `stored::key_in` meets its contract. Assumes nothing.
use mathlib.Core.Path.{◌≡◌, ◌∙◌}
use Prim.Native.Nat.{◌+◌, min}
use native.Mathlib.Omega.{arith}
use lib.ListN.{get_or}
use Rattle.catalog_keys.specs.Key.{key_at}
use Rattle.catalog_keys.proofs.Reading.{bytes-part, key-parts}
use Rattle.catalog_keys.proofs.stored.key_in.Goals as goal

pub returns : goal.returns
unfolding key_at
returns c =
    let a = c.args in
    let n : c.min.result ≡ min 31 (get_or a.image.now (a.at + 6) 0) = grind arith in
    key-parts _ _ _ _ (c.from.ensures ∙ c.be32_in.ensures) (c.part_at.ensures.holds ∙ rw n (bytes-part _ _ _ (omega arith)))
