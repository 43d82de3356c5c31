-- `records::records_right` meets its contract. Assumes nothing.
use native.Mathlib.Omega.{arith}
use mathlib.Core.Path.{sym, ◌∙◌}
use Rattle.std.proofs.lemmas.Grind.{common_steps}
use Rattle.fast_nodes.proofs.records.records_right.Goals as goal

pub returns : goal.returns
returns c e =
    let i = c.be16_in-c.ensures.0 in
    record {
      is_kind = sym c.byte_in.ensures.0 ∙ c.if-byte_in-rows.false;
      reserved = sym c.be16_in.ensures.0 ∙ c.if-be16_in-ne0.false;
      some = omega (arith, i, c.if-c-eq0.false);
      few = grind (arith, common_steps);
      keyed = rw (← i) (c.is_keyed.ensures e);
    }
