-- `tree_tests` meets its contract. Assumes nothing.
use Rattle.step.specs.declared.state.Walk.{Walk}
use lib.ListN.{replicate}
use mathlib.Core.List.{[]}
use mathlib.Core.Path.{◌∙◌}
use Rattle.formats.specs.Format.{view}
use Rattle.walk.proofs.Agree.{Agrees, finish, tree-finds, tree-keeps}
use Rattle.walk.proofs.Finish.{begun, marks-reached, size-reached}
use Rattle.std.proofs.lemmas.Result.{err_from_is_err_and}
use Rattle.walk.proofs.tree_tests.Goals as goal
use Rattle.walk.proofs.tree_tests.Goals.{Start}

-- what goes by value when the walk begins
abbrev start : Start → Walk
start c = record { last = replicate 8 0; records = 0; first = 0; nodes = c.args.nodes }

began : (c : Start) → Agrees (view c.args.form c.args.image.now) c.args.bits.now (start c) []
began c = begun (view c.args.form c.args.image.now) c.args.bits.now c.args.nodes c.requires.walkable.room c.requires.marks c.requires.count

pub returns-in_err-visit_tree : goal.returns-in_err-visit_tree
unfolding finish
returns-in_err-visit_tree c =
    let p = err_from_is_err_and c.from_residual.result c.from_residual.ensures.1 in
    rw (p.1, p.2)
    (record {
      verdict = tree-finds (view c.args.form c.args.image.now) c.requires.walkable.shallow c.args.bits.now _ (began (goal.at.returns-in_err-visit_tree c).Start) _ c.in_err-visit_tree.ensures;
      marks = tt;
      count = tt;
    })

pub returns-in_err-closing_tests : goal.returns-in_err-closing_tests
unfolding finish
returns-in_err-closing_tests c =
    let p = err_from_is_err_and c.from_residual-in_err-closing_tests.result c.from_residual-in_err-closing_tests.ensures.1 in
    rw (p.1, p.2)
    (record {
      verdict =
          c.in_err-closing_tests.ensures
          ∙ tree-finds (view c.args.form c.args.image.now) c.requires.walkable.shallow c.args.bits.now _ (began (goal.at.returns-in_err-closing_tests c).Start) _ c.in_ok-visit_tree.ensures;
      marks = tt;
      count = tt;
    })

pub returns : goal.returns
unfolding finish
returns c =
    let v = view c.args.form c.args.image.now in
    let s = began (goal.at.returns c).Start in
    let a = tree-keeps v c.requires.walkable.shallow c.args.bits.now _ s _ c.in_ok-visit_tree.ensures in
    record {
      verdict = c.in_ok-closing_tests.ensures ∙ tree-finds v c.requires.walkable.shallow c.args.bits.now _ s _ c.in_ok-visit_tree.ensures;
      marks = marks-reached v _ a.marks;
      count = a.nodes ∙ size-reached v;
    }
