-- `keys::compare` meets its contract. Assumes nothing.
use mathlib.Core.Path.{◌∙◌}
use Rattle.catalog_keys.proofs.Order.{rank-order}
use Rattle.catalog_keys.proofs.Reading.{key-short, key-copied, compared-as}
use Rattle.catalog_keys.proofs.keys.compare.Goals as goal

pub returns-then-b-image-clause-order : goal.returns-then-b-image-clause-order
returns-then-b-image-clause-order c =
    compared-as _ _ _ _ _ c.compare_keys.ensures c.key_in.ensures c.key_in-then-b-image.ensures
    ∙ rank-order _ _ (key-short _ _) (key-short _ _)

pub returns : goal.returns
returns c =
    let a = c.key_in-2.ensures ∙ key-copied _ _ _ c.bytes_from-first.ensures in
    let b = c.key_in-3.ensures ∙ key-copied _ _ _ c.bytes_from-second.ensures in
    let e = compared-as _ _ _ _ _ c.compare_keys-2.ensures a b in
    record { equal = e; order = e ∙ rank-order _ _ (key-short _ _) (key-short _ _) }
