-- The steps along the entries below a node, in the code's terms: from record i to i + 1, of c.
-- Assumes nothing.
use mathlib.Core.Path.{◌≡◌, refl, sym, ap, ◌∙◌}
use mathlib.Core.Option.{Option}
use mathlib.Core.List.{List, [], ◌∷◌, ◌++◌}
use Prim.Native.Nat.{ℕ, zero, suc, ◌+◌, ◌-◌, ◌<◌, ◌≤◌}
use native.Mathlib.Omega.{arith}
use native.Mathlib.Numerals.{add-one}
use Rattle.btree.specs.declared.Place.{Place}
use Rattle.btree.specs.Lists.{span}
use Rattle.btree.specs.Tree.{View}
use Rattle.btree.specs.Walk.{Entry, entries, kid}
use Rattle.btree.proofs.Left.{one_more, none_left}
use Rattle.step.specs.declared.pointer.Pointer.{Pointer}
use Rattle.step.specs.declared.state.Walk.{Walk}
use Rattle.frame.specs.declared.form.Form.{Form}
use Rattle.formats.specs.Format.{view}
use Rattle.order.specs.Bound.{bound}
use Rattle.step.specs.State.{State, step, steps}
use Rattle.step.specs.State.State.{stopped}
use Rattle.btree.specs.declared.Verdict.{Verdict}
use Rattle.walk.specs.Visit.{Points, entries_at}

module _ (v : View) where
  pub steps-append : (s : State) (xs ys : List Entry) → steps v s (xs ++ ys) ≡ steps v (steps v s xs) ys
  unfolding steps
  steps-append s [] ys = refl
  steps-append s (x ∷ xs) ys = steps-append (step v s x) xs ys

  pub steps-stopped : (b : List ℕ) (w : Walk) (t : Verdict) (es : List Entry) → steps v (stopped b w t) es ≡ stopped b w t
  unfolding steps step
  steps-stopped b w t [] = refl
  steps-stopped b w t (x ∷ es) = steps-stopped b w t es

  module _ (s : State) (b d : ℕ) (from : Place) (lo hi : Option ℕ) (n : ℕ) where
    pub steps-leaf : b ≡ 0 → steps v s (entries v b d from lo hi n) ≡ step v s (record { node = n; from = from; level = d; low = lo; high = hi })
    unfolding steps
    steps-leaf e = rw e

    -- where the node stops the walk, what is below it does not matter
    pub steps-first : (bits : List ℕ) (w : Walk) (t : Verdict) → stopped bits w t ≡ step v s (record { node = n; from = from; level = d; low = lo; high = hi })
        → stopped bits w t ≡ steps v s (entries v b d from lo hi n)
    unfolding steps
    steps-first bits w t e = go b
      where
        go : (k : ℕ) → stopped bits w t ≡ steps v s (entries v k d from lo hi n)
        go zero = e
        go (suc k) = sym (steps-stopped bits w t (span 0 (v.count n) (kid v k d hi n))) ∙ ap (λ (x : State). steps v x (span 0 (v.count n) (kid v k d hi n))) e

    pub steps_index : (b ≡ 0 → ⊥)
        → steps v s (entries v b d from lo hi n)
        ≡ steps v (step v s (record { node = n; from = from; level = d; low = lo; high = hi })) (span 0 (v.count n) (kid v (b - 1) d hi n))
    unfolding steps
    steps_index h = let e : b ≡ suc (b - 1) = omega arith in ap (λ (k : ℕ). steps v s (entries v k d from lo hi n)) e

  pub kids-end : (f : ℕ → List Entry) (s : State) (c i : ℕ) → c ≤ i → steps v s (span i (c - i) f) ≡ s
  unfolding steps
  kids-end f s c i h = rw (none_left c i h)

module _ (form : Form) (img : List ℕ) where
  pub kids-on : (h : ℕ) (e : Pointer) (s r : State) (c i : ℕ) (p : Pointer) → i < c → Points form img e i p → r ≡ steps (view form img) s (entries_at form img h p)
      → steps (view form img) s (span i (c - i) (kid (view form img) h e.level (bound form img e.high) e.node))
      ≡ steps (view form img) r (span (i + 1) (c - (i + 1)) (kid (view form img) h e.level (bound form img e.high) e.node))
  kids-on h e s r c i p l q is =
      ap (λ (k : ℕ). steps (view form img) s (span i k (kid (view form img) h e.level (bound form img e.high) e.node))) (one_more c i l)
      ∙ steps-append (view form img) s (kid (view form img) h e.level (bound form img e.high) e.node i) (span (suc i) (c - (i + 1)) (kid (view form img) h e.level (bound form img e.high) e.node))
      ∙ rw (is, q.child, q.from, q.level, q.low, q.under, add-one i)
