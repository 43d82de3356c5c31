-- `rows::result_in` meets its contract: it looks in the form of HFS. Assumes nothing.
use mathlib.Core.Path.{◌≡◌, sym, ap, subst, ◌∙◌}
use Rattle.btree.specs.declared.Answer.{Answer}
use Rattle.btree.specs.declared.Lookup.{Lookup}
use Rattle.btree.specs.Places.{image_offset}
use Rattle.btree.specs.Search.{answer_of, descent_of}
use Rattle.btree.proofs.Decisions.{said, unsaid}
use Rattle.frame.specs.declared.form.Form.{Form}
use Rattle.frame.specs.Form.{hfs, layout_of}
use Rattle.extent_keys.specs.Key.{rank, unpacked, dec_key}
use Rattle.formats.proofs.Ranks.{asked-extents}
use Rattle.formats.specs.Format.{data_at, view}
use Rattle.search.specs.Descent.{Searchable}
use Rattle.search.specs.Rows.{result_of, result_in}
use Rattle.search.proofs.Filled.{result-no-key, result-key}
use borrow.Author.Rules.{rules}
use Rattle.search.proofs.rows.result_in.Goals as goal
use Rattle.search.proofs.rows.result_in.Goals.{After-data_at, After-descend-found}

-- what the descent answers, as the definition has it
answers : (c : After-descend-found) (a : Answer) → c.descend-found.result.answer ≡ a → let s = c.args in answer_of (view hfs s.image.now) (rank (unpacked s.number)) ≡ a
answers c a e =
    let s = c.args in
    let f = c.of_hfs-form in
    let k = asked-extents f.result (ap (λ (form : Form). form.tree) f.ensures) c.unpack.result _ ∙ c.unpack.ensures in
    let d = c.descend-found.ensures ∙ ap (descent_of (view f.result s.image.now)) k in
    subst (λ (form : Form). answer_of (view form s.image.now) (rank (unpacked s.number)) ≡ a) f.ensures (sym (ap (λ (l : Lookup). l.answer) d) ∙ e)

-- and so its result
result : (c : After-descend-found) (a : Answer) → c.descend-found.result.answer ≡ a → let s = c.args in result_of s.image.now a ≡ result_in s.image.now s.number
result c a e =
    sym (result-key _ _ (said (dec_key _) (sym c.is_key.ensures ∙ c.if-not-is_key.false)) ∙ ap (result_of c.args.image.now) (answers c a e))

-- where the data stands
stands : (c : After-data_at) → let i = c.args.image.now in c.data_at.result ≡ data_at hfs i (image_offset (layout_of hfs) c.in-Found.place)
stands c =
    c.data_at.ensures.0 ∙ ap (λ (form : Form). data_at form c.args.image.now (image_offset (layout_of form) c.in-Found.place)) c.of_hfs-form.ensures

pub returns-then-not-is_key : goal.returns-then-not-is_key
returns-then-not-is_key c = sym (result-no-key _ _ (unsaid (dec_key _) (sym c.is_key.ensures ∙ c.if-not-is_key.true)))

pub descend-found-requires : goal.descend-found-requires
descend-found-requires c =
    subst (λ (form : Form). Searchable form c.args.image.now) (sym c.of_hfs-form.ensures) c.requires.searchable

pub overflow_cast-result : goal.overflow_cast-result
overflow_cast-result c =
    let s = c.requires.small _ _ (answers (goal.at.overflow_cast-result c).After-descend-found _ c.in-Found.is) in
    let e = stands (goal.at.overflow_cast-result c).After-data_at in
    search rules

pub returns-in-Found : goal.returns-in-Found
returns-in-Found c = stands (goal.at.returns-in-Found c).After-data_at ∙ result (goal.at.returns-in-Found c).After-descend-found _ c.in-Found.is

pub returns-in-Absent : goal.returns-in-Absent
returns-in-Absent c = result (goal.at.returns-in-Absent c).After-descend-found _ c.in-Absent.is

pub returns-in-Refused : goal.returns-in-Refused
returns-in-Refused c = result (goal.at.returns-in-Refused c).After-descend-found _ c.in-Refused.is
