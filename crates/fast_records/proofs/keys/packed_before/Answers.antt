-- `keys::packed_before` meets its contract. Assumes nothing.
use native.Mathlib.Omega.{arith}
use mathlib.Core.Path.{ap, ◌∙◌}
use Prim.Native.Nat.{◌-◌}
use Rattle.fast_records.specs.Keyed.{turn}
use Rattle.fast_records.proofs.Surely.{bytes-of}
use Rattle.fast_records.proofs.Numbers.{turn-key}
use Rattle.fast_records.proofs.keys.packed_before.Goals as goal

pub returns : goal.returns
returns c =
    let at = c.args.after - 1 in
    let b = bytes-of _ c.type_inv.image in
    let l = b at in
    let k = c.turned.ensures ∙ ap turn c.be64_in.ensures ∙ turn-key _ b at in
    (c.if-after-eq0.false, omega arith)
