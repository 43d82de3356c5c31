-- `records::key_lawful` meets its contract. Assumes nothing.
use mathlib.Core.Path.{sym, ◌∙◌}
use native.Mathlib.Omega.{arith}
use Rattle.extent_keys.specs.Key.{dec_lawful}
use Rattle.extent_nodes.proofs.Lawfully.{law-hfs, law-plus}
use Rattle.btree.proofs.Telling.{tells-dec}
use Rattle.extent_nodes.proofs.records.key_lawful.Goals as goal

pub returns-then-byte_in-eq7 : goal.returns-then-byte_in-eq7
returns-then-byte_in-eq7 c =
    let l = law-hfs _ c.requires.0 c.args.image.now c.args.at (sym c.in-Hfs.ensures) in
    tells-dec (dec_lawful _) c.is_lawful.ensures
    (λ f. l.1 (sym c.byte_in.ensures.0 ∙ c.if-byte_in-eq7.true, rw (← c.byte_in-then-byte_in-eq7.ensures.0) f))
    (λ k. rw c.byte_in-then-byte_in-eq7.ensures.0 (l.0 k).1)

pub returns-else-byte_in-eq7 : goal.returns-else-byte_in-eq7
returns-else-byte_in-eq7 c = grind (arith, law-hfs)

pub returns-then-be16_in-eq10 : goal.returns-then-be16_in-eq10
returns-then-be16_in-eq10 c =
    let l = law-plus _ c.requires.0 c.args.image.now c.args.at c.in-HfsPlus.ensures in
    tells-dec (dec_lawful _) c.is_lawful-then-be16_in-eq10.ensures
    (λ f. l.1 (sym c.be16_in.ensures.0 ∙ c.if-be16_in-eq10.true, rw (← c.byte_in-then-be16_in-eq10.ensures.0) f))
    (λ k. rw c.byte_in-then-be16_in-eq10.ensures.0 (l.0 k).1)

pub returns-else-be16_in-eq10 : goal.returns-else-be16_in-eq10
returns-else-be16_in-eq10 c = grind (arith, law-plus)
