-- A step, by what the tests find.
-- Assumes nothing.
use mathlib.Core.Path.{◌≡◌, sym, ap, ◌∙◌}
use mathlib.Core.List.{List}
use Prim.Native.Nat.{ℕ, ◌+◌}
use lib.Dec.{eqb}
use Rattle.btree.specs.declared.Verdict.{Verdict}
use Rattle.btree.specs.Tree.{View}
use Rattle.btree.specs.Walk.{Entry, test}
use Rattle.btree.proofs.Ordered.{if-zero, if-other}
use Rattle.image.specs.Set.{with_bit}
use Rattle.step.specs.declared.state.Walk.{Walk}
use Rattle.step.specs.State.{fresh_in, kept, landed, last_at, step}
use Rattle.step.specs.State.State.{going, stopped}

-- of a walk that goes on
module _ (v : View) (bits : List ℕ) (w : Walk) (e : Entry) (t : Verdict) (is : t ≡ test v (fresh_in v.total bits e.node) (last_at w e.level) e) where
  step-lands : step v (going bits w) e ≡ landed v bits w e t
  unfolding step
  step-lands = ap (landed v bits w e) (sym is)

  pub step-stops : (t.number ≡ 0 → ⊥) → step v (going bits w) e ≡ stopped bits w t
  unfolding landed
  step-stops h = step-lands ∙ if-other t.number _ _ h

  pub step_keeps : t.number ≡ 0
      → step v (going bits w) e ≡ going (with_bit bits e.node) (kept w e.node e.level (eqb (e.level + 1) v.depth) (v.count e.node))
  unfolding landed
  step_keeps h = step-lands ∙ if-zero t.number _ _ h
