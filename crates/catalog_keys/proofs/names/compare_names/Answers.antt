-- `names::compare_names` meets its contract. Assumes nothing.
use mathlib.Core.Path.{sym, ◌∙◌}
use mathlib.Core.Logic.{⊎_elim, inl, inr}
use native.Mathlib.Omega.{arith}
use Rattle.catalog_keys.proofs.Prefixes.{names-apart, names-on, names-end}
use Rattle.catalog_keys.proofs.Answered.{number-cmp}
use Rattle.catalog_keys.proofs.names.compare_names.Goals as goal

pub returns-then-is_ne : goal.returns-then-is_ne
returns-then-is_ne c =
    let s = c.in-Some.ensures.steps in
    names-apart _ _ _ _ _ _ s.0 s.1 _ _ _ c.weight_in.ensures.0 c.weight_in-in-loop-x.ensures.0 c.cmp-order.ensures c.if-is_ne.ensures
    ∙ sym c.loop-x.invariant.0

pub loop-x-preserved : goal.loop-x-preserved
loop-x-preserved c =
    let s = c.in-Some.ensures.steps in
    let l = c.loop-x.invariant in (
      l.0 ∙ names-on _ _ _ _ _ _ s.0 s.1 _ _ _ c.weight_in.ensures.0 c.weight_in-in-loop-x.ensures.0 c.cmp-order.ensures c.if-is_ne.ensures,
      grind (arith, s.0, s.1),
    )

pub returns : goal.returns
returns c =
    let l = c.loop-x.invariant in
    number-cmp _ _ _ c.cmp.ensures
    ∙ sym (names-end _ _ _ _ l.0 l.1 (⊎_elim (λ u. inl u.1.0) (λ u. inr u.1.0) c.in-None.ensures.steps))
