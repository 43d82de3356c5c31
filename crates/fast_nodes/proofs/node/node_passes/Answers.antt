-- `node::node_passes` meets its contract. Assumes nothing.
use mathlib.Core.Path.{◌≡◌, sym, ◌∙◌}
use Prim.Native.Nat.{ℕ, ◌-◌}
use native.Mathlib.Omega.{arith}
use Rattle.frame.specs.Form.{hfs}
use Rattle.frame.specs.Kinds.{kind_on}
use Rattle.extent_nodes.specs.Records.{record_size}
use Rattle.order.specs.Bound.{bound}
use Rattle.fast_records.specs.Keyed.{packed_at}
use Rattle.fast_records.proofs.Surely.{bytes-of, before-or}
use Rattle.fast_nodes.specs.Passes.{Recorded, Passes}
use Rattle.fast_nodes.proofs.Nodes.{leaf-size, index-size, node-passes, on-leaf, on-index}
use Rattle.fast_nodes.proofs.node.node_passes.Goals as goal
use Rattle.fast_nodes.proofs.node.node_passes.Goals.{Else-level-above}

-- a node of this kind and size
of-kind : (p : Else-level-above) (kind size top : ℕ) → record_size hfs kind ≡ size → kind_on p.byte_in-level.result ≡ kind
    → ((p.args.high ≡ 0 → ⊥) → top ≡ packed_at p.args.image.now (p.args.high - 1)) → Recorded p.args.image.now p.start_of-start.result kind size top
    → Passes p.args.form p.args.image.now p.args.node p.args.above (bound p.args.form p.args.image.now p.args.low) (bound p.args.form p.args.image.now p.args.high)
of-kind p kind size top z k u r =
    node-passes _ (p.is_hfs.ensures p.if-not-is_hfs.false) _ (bytes-of _ p.type_inv.image) _ _ kind size top p.start_of-start.ensures.0 z r _ _ _
    (omega (arith, p.if-level-above.false, p.be16.ensures.0, p.byte_in-level.ensures.0)) (rw (← p.byte_in-level.ensures.0) k)
    (λ h. sym p.be64_in-raw.ensures ∙ p.first_meets.ensures p.if-not-first_meets.false h) u

pub returns-then-level-eq1 : goal.returns-then-level-eq1
returns-then-level-eq1 c e = of-kind (goal.at.returns-then-level-eq1 c).Else-level-above 255 20 _ leaf-size (on-leaf _ c.if-level-eq1.true) (before-or _ _ _ _ _ c.packed_before.ensures c.unwrap_or-top.ensures) (c.records_right.ensures e)

pub returns : goal.returns
returns c e = of-kind (goal.at.returns c).Else-level-above 0 12 _ index-size (on-index _ c.if-level-eq1.false) (before-or _ _ _ _ _ c.packed_before.ensures c.unwrap_or-top.ensures) (c.records_right-2.ensures e)
