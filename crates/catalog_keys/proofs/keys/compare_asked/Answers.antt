-- `keys::compare_asked` meets its contract. Assumes nothing.
use mathlib.Core.Path.{◌≡◌, refl, ◌∙◌}
use Prim.Native.Nat.{min}
use native.Mathlib.Omega.{arith}
use lib.ListN.{length}
use Rattle.catalog_keys.proofs.Order.{cut-answer}
use Rattle.catalog_keys.proofs.Reading.{key-short, key-copied, compared-as}
use Rattle.catalog_keys.proofs.keys.compare_asked.Goals as goal

pub returns-then-at-image : goal.returns-then-at-image
returns-then-at-image c =
    let n : c.min-n.result ≡ min 31 (length c.args.name.now) = grind arith in
    let p = cut-answer _ _ _ n _ _ (key-short _ _) (compared-as _ _ _ _ _ c.compare_keys.ensures refl c.key_in.ensures) in
    record { equal = p.0; order = p.1 }

pub returns : goal.returns
returns c =
    let n : c.min-n.result ≡ min 31 (length c.args.name.now) = grind arith in
    let k = c.key_in-2.ensures ∙ key-copied _ _ _ c.bytes_from-bytes.ensures in
    let p = cut-answer _ _ _ n _ _ (key-short _ _) (compared-as _ _ _ _ _ c.compare_keys-2.ensures refl k) in
    record { equal = p.0; order = p.1 }
