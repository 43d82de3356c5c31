-- `leaf::records_of_passing` meets its contract. Assumes nothing.
use mathlib.Core.Path.{refl, sym, ◌∙◌}
use Rattle.fast_records.proofs.Surely.{bytes-of}
use Rattle.fast_nodes.proofs.Nodes.{leaf-size, leaf-passed, leaf-recorded}
use Rattle.fast_nodes.proofs.leaf.records_of_passing.Goals as goal

pub returns-clause-passes : goal.returns-clause-passes
returns-clause-passes c =
    let q = c.is_keyed_leaf.ensures c.if-not-is_keyed_leaf.false in
    let h = c.is_leaf.ensures c.if-not-is_leaf.false in
    let r = leaf-recorded _ _ _ _ c.be16_in-c.ensures.0 h q.0 q.1 q.2 in
    leaf-passed _ _ _ 255 20 _ refl leaf-size r refl (bytes-of _ c.type_inv.image) _ _ h.level (sym c.be32_in.ensures ∙ c.if-be32_in-before.false) (sym c.be64_in.ensures ∙ c.if-be64_in-raw.false)
