-- `run::leaf_run` meets its contract. Assumes nothing.
use mathlib.Core.Path.{◌≡◌, refl}
use lib.ListN.{length}
use Rattle.leaf_run.proofs.Going.{none-ran, can-begin, can-end}
use borrow.Author.Rules.{rules}
use Rattle.leaf_run.proofs.run.leaf_run.Goals as goal
use Rattle.leaf_run.proofs.run.leaf_run.Goals.{Start}

wide : (c : Start) → length c.args.w.last ≡ 8
wide c = search rules

pub leaves_from-requires : goal.leaves_from-requires
leaves_from-requires c =
    let a = c.args in
    can-begin a.form a.image.now a.bits.now a.w a.below a.level a.node a.i a.c a.high _ (c.can_run.ensures c.if-can_run.true) c.requires

pub returns-then-can_run : goal.returns-then-can_run
returns-then-can_run c =
    let a = c.args in
    can-end a.form a.image.now a.bits.now a.w a.below a.level a.node a.i a.c a.high _ (c.can_run.ensures c.if-can_run.true) c.requires _ _ (wide (goal.at.returns-then-can_run c).Start) refl c.leaves_from.ensures

pub returns : goal.returns
returns c =
    none-ran _ _ _ c.args.w _ c.args.level _ _ _ _ _ c.requires.upto refl c.requires.small
