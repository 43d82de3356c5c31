-- `words::four_right` meets its contract. Assumes nothing.
use mathlib.Core.Path.{refl, sym, ◌∙◌}
use borrow.Author.Tests.{eqb-true}
use Rattle.fast_records.proofs.Surely.{bytes-of}
use Rattle.fast_records.proofs.Fours.{four-right}
use Rattle.fast_records.proofs.words.four_right.Goals as goal

pub returns : goal.returns
returns c e =
    let a = c.args in
    let p = c.requires in
    four-right a.image.now (bytes-of _ c.type_inv.image) a.end a.size a.i _ p.0 refl p.2 (sym c.be64_in.ensures ∙ eqb-true _ _ e)
