-- `form::Form::listed` meets its contract. Assumes nothing.
use mathlib.Core.Path.{sym, ◌∙◌}
use Rattle.btree.proofs.Decisions.{said, unsaid}
use Rattle.frame.specs.Form.{form_of, Listed, dec_listed}
use Rattle.frame.proofs.Forms.{fair}
use Rattle.frame.proofs.form.Form.listed.Goals as goal
use Rattle.frame.proofs.form.Form.listed.Goals.{Else-not-is_listed}

listed : (c : Else-not-is_listed) → let a = c.args in Listed (form_of a.edition a.size)
listed c = said (dec_listed _) (sym c.is_listed.ensures ∙ c.if-not-is_listed.false)

pub returns-then-not-is_listed : goal.returns-then-not-is_listed
returns-then-not-is_listed c = unsaid (dec_listed _) (sym c.is_listed.ensures ∙ c.if-not-is_listed.true)

pub of_numbers-requires : goal.of_numbers-requires
of_numbers-requires c = let f = fair (form_of c.args.edition c.args.size) (listed (goal.at.of_numbers-requires c).Else-not-is_listed) in (f.least, f.most)

pub returns : goal.returns
returns c = (listed (goal.at.returns c).Else-not-is_listed, c.of_numbers.ensures)
