-- `salvage_part` meets its contract. Assumes nothing.
use mathlib.Core.Logic.{⊎_elim}
use mathlib.Core.Path.{◌≡◌, sym, ◌∙◌}
use Prim.Native.Nat.{ℕ}
use Rattle.btree.specs.declared.Place.{Place}
use Rattle.btree.specs.declared.Salvage.TheVariants.{NotSeen, Refused}
use Rattle.formats.specs.Asked.{asked_rank}
use Rattle.reader.proofs.Matches.{seen-inside}
use Rattle.reader.proofs.salvage_part.Goals as goal

pub data_of-requires : goal.data_of-requires
data_of-requires c =
    let a = c.args in
    seen-inside a.form a.image.now (asked_rank a.form a.key a.name.now) a.lawful _ (sym c.salvage.ensures ∙ c.in-Seen.is)

pub returns-in-Seen : goal.returns-in-Seen
returns-in-Seen c = rw (sym c.salvage.ensures ∙ c.in-Seen.is) c.data_of.ensures

pub returns-in-NotSeen : goal.returns-in-NotSeen
returns-in-NotSeen c =
    ⊎_elim (λ (e : c.salvage.result ≡ NotSeen). rw (sym c.salvage.ensures ∙ e) c.no_part.ensures)
    (λ ((n, p, e) : (n : ℕ) × (p : Place) × c.salvage.result ≡ Refused n p). rw (sym c.salvage.ensures ∙ e) c.no_part.ensures) c.in-NotSeen.is
