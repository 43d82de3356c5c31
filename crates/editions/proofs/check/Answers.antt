-- `check` meets its contract. Assumes nothing.
use mathlib.Core.Path.{refl, sym, ◌∙◌}
use mathlib.Core.List.Memᴰ
use Rattle.btree.proofs.Work.{left-untouched, leaves}
use Rattle.frame.specs.Form.{form_of, layout_of}
use Rattle.formats.specs.Format.{format_of}
use Rattle.editions.proofs.Editions.{check-listed, check-unlisted, says-check, refuses-check}
use Rattle.editions.proofs.check.Goals as goal

pub returns-in-None : goal.returns-in-None
returns-in-None c =
    let a = c.args in
    let f = form_of a.edition a.size in
    let u = c.in-None.ensures in
    rw c.at_node.ensures (record {
      equal = sym (check-unlisted f a.image.now u _);
      says = refuses-check f a.image.now u _ _ refl;
      leaves = leaves (layout_of f) _ (format_of f) 25 _ _ (sym (left-untouched (layout_of f) _ (format_of f) 25 _ (Memᴰ.head refl)));
    })

pub returns-in-Some : goal.returns-in-Some
returns-in-Some c =
    let a = c.args in
    let f = form_of a.edition a.size in
    let l = c.in-Some.ensures in
    let e = rw l.1 at c.check.ensures.equal in record {
      equal = e ∙ sym (check-listed f a.image.now l.0 _);
      says = says-check f a.image.now l.0 _ _ e (rw l.1 at c.check.ensures.says);
      leaves = rw l.1 at c.check.ensures.leaves;
    }
