-- A run over leaves, turn by turn: the steps along the entries left, from where it is, come to what those along all come to from where it began.
-- Assumes nothing.
use mathlib.Core.Path.{◌≡◌, refl, sym, ap, subst, ◌∙◌}
use mathlib.Core.Bool.{true}
use mathlib.Core.List.{List}
use Prim.Native.Nat.{ℕ, suc, ◌+◌, ◌-◌, ◌*◌, ◌<◌, ◌≤◌}
use native.Mathlib.Nat.{add-zero}
use native.Mathlib.Numerals.{add-one}
use native.Mathlib.Omega.{arith}
use lib.ListN.{length}
use lib.Seq.{get_or-set_same, set-get_or, set-set}
use borrow.Author.Tests.{eq-eqb}
use Rattle.image.specs.Bytes.{be32_at, be64_at}
use Rattle.image.specs.Set.{with_bit}
use Rattle.btree.specs.Lists.{span}
use Rattle.btree.specs.Header.{depth_of, count_of, view_of}
use Rattle.btree.specs.Walk.{fine, kid}
use Rattle.btree.proofs.Left.{one_more}
use Rattle.frame.specs.declared.form.Form.{Form}
use Rattle.frame.specs.Form.{hfs, layout_of}
use Rattle.frame.specs.Inside.{NodeIn}
use Rattle.formats.specs.Format.{view}
use Rattle.order.specs.Bound.{bound}
use Rattle.step.specs.declared.state.Walk.{Walk}
use Rattle.step.specs.State.{State, first_with, kept, last_at, step, steps}
use Rattle.step.specs.State.State.{going}
use Rattle.step.specs.Room.{Small}
use Rattle.step.specs.Ready.{Walkable}
use Rattle.step.proofs.Fresh.{Free, fresh-free}
use Rattle.step.proofs.Lands.{step_keeps}
use Rattle.step.proofs.Links.{first-kept}
use Rattle.step.proofs.Room.{small-kept, nodes-fit, records-most}
use Rattle.leaf_run.specs.declared.run.Run.{Run}
use Rattle.leaf_run.specs.Run.{ran_of, Addable, Ran, RunReady, Begun, CanRun, Runnable, RanFor}
use Rattle.leaf_run.proofs.Taken.{Turn, entry_at, turn-fine, is-child}

abbrev pub run_of : ℕ → ℕ → ℕ → Run
run_of count last records = record { count = count; last = last; records = records }

-- a run of no nodes changes nothing
pub ran-none : (w : Walk) (d p : ℕ) → last_at w d ≡ p → ran_of w d (run_of 0 p 0) ≡ w
unfolding ran_of
ran-none w d p e = rw (← e, set-get_or w.last d 0, add-zero w.records, add-zero w.nodes)

pub none-ran : (form : Form) (img bits : List ℕ) (w : Walk) (h d n i c high p : ℕ) → i ≤ c → last_at w (d + 1) ≡ p → Small bits w → Ran form img bits bits w h d n i c high (run_of 0 p 0)
none-ran form img bits w h d n i c high p l e s =
    let f = ran-none w (d + 1) p e in
    record { upto = omega arith; is = rw (f, add-zero i); small = rw f s }

-- the counts after a run fit
pub ran-fits : (bits : List ℕ) (w : Walk) (d : ℕ) (r : Run) → d < 8 → Small bits (ran_of w d r) → Addable w d r
unfolding ran_of
ran-fits bits w d r l s = record { level = l; records = records-most bits (ran_of w d r) s; nodes = let n = nodes-fit bits (ran_of w d r) s in omega arith }

-- a leaf kept after a run makes it longer by one
kept-ran : (w : Walk) (d k p s n c : ℕ) → (w.first ≡ 0 → ⊥) → kept (ran_of w d (run_of k p s)) n d true c ≡ ran_of w d (run_of (k + 1) n (s + c))
unfolding kept ran_of first_with
kept-ran w d k p s n c f =
    let a : w.records + s + c ≡ w.records + (s + c) = omega arith in
    let b : w.nodes + k + 1 ≡ w.nodes + (k + 1) = omega arith in
    rw (set-set w.last d p n, first-kept w.first n f, a, b)

-- record j of the node n, on level d, is next
pub record Going (img bits₀ bits : List ℕ) (n i c high j : ℕ) (w : Walk) (d : ℕ) (r : Run) : Type 0 where
  pub is : steps (view hfs img) (going bits₀ w) (span i (c - i) (kid (view hfs img) 0 d (bound hfs img high) n))
      ≡ steps (view hfs img) (going bits (ran_of w (d + 1) r)) (span j (c - j) (kid (view hfs img) 0 d (bound hfs img high) n))
  pub small : Small bits (ran_of w (d + 1) r)

module _ (img bits₀ : List ℕ) (before n i c high : ℕ) (w : Walk) (d : ℕ) (g : Begun bits₀ w (d + 1) before) where
  pub going_start : Going img bits₀ bits₀ n i c high i w d (run_of (i - i) before 0)
  going_start =
      let z : i - i ≡ 0 = omega arith in
      let e = ran-none w (d + 1) before g.last in
      record { is = rw (z, e); small = rw (z, e) g.small }

  module _ (bits : List ℕ) (p j at raw child next top end : ℕ) (t : Turn img bits p n j c high at raw child next top end) (deep : d + 2 ≡ depth_of img) (u : Walkable hfs img bits)
      (k s m : ℕ) (records : m ≡ count_of (layout_of hfs) img child) (few : m < 65536) (a : Going img bits₀ bits n i c high j w d (run_of k p s)) where
    free : Free (view hfs img).total bits child
    unfolding view_of
    free = fresh-free (view hfs img).total bits child t.surely.fresh

    last-is : last_at (ran_of w (d + 1) (run_of k p s)) (suc d) ≡ p
    unfolding ran_of view_of
    last-is = rw (← add-one d) (get_or-set_same w.last (d + 1) p 0 (omega (arith, g.wide, u.shallow)))

    keeps : step (view hfs img) (going bits (ran_of w (d + 1) (run_of k p s))) (entry_at img d n j high) ≡ going (with_bit bits child) (ran_of w (d + 1) (run_of (k + 1) child (s + m)))
    unfolding ran_of view_of
    keeps =
        let v = view hfs img in
        let x = ran_of w (d + 1) (run_of k p s) in
        step_keeps v bits x (entry_at img d n j high) fine (rw last-is (sym (turn-fine img bits p n j c high at raw child next top end t d deep))) refl
        ∙ rw (is-child img bits p n j c high at raw child next top end t, eq-eqb (suc d + 1) (depth_of img) (omega arith), ← records, ← add-one d)
        (ap (going (with_bit bits child)) (kept-ran w (d + 1) k p s child m g.first))

    pub going_on : Going img bits₀ (with_bit bits child) n i c high (j + 1) w d (run_of (k + 1) child (s + m))
    unfolding steps
    going_on =
        let v = view hfs img in
        let f = kid v 0 d (bound hfs img high) n in
        let x = ran_of w (d + 1) (run_of k p s) in
        record {
          is =
              a.is
              ∙ ap (λ (l : ℕ). steps v (going bits x) (span j l f)) (one_more c j t.more)
              ∙ ap (λ (y : State). steps v y (span (suc j) (c - (j + 1)) f)) keeps
              ∙ rw (add-one j);
          small =
              rw (← kept-ran w (d + 1) k p s child m g.first)
              (small-kept bits x child (omega (arith, free.range, u.few)) (omega (arith, free.range, u.room)) free.unmarked m few a.small (d + 1) true);
        }

-- what a run holds between its turns, with `at` the byte of record j, and what stands there
pub record Held (img bits₀ bits : List ℕ) (before n i c high p s at raw child j : ℕ) : Type 0 where
  pub place : at ≡ n * 512 + 14 + j * 12
  pub low : raw ≡ be64_at img at
  pub points : child ≡ be32_at img (at + 8)
  pub last_in : NodeIn hfs img p
  pub few : s ≤ 65535 * (j - i)
  pub long : length bits ≡ length bits₀
  pub going : (w : Walk) (d : ℕ) → d + 2 ≡ depth_of img → Begun bits₀ w (d + 1) before → Going img bits₀ bits n i c high j w d (run_of (j - i) p s)

-- a run of any form that can begin is one of HFS over leaves
module _ (form : Form) (img bits : List ℕ) (w : Walk) (h d n i c high p : ℕ) (q : CanRun form img w h p n c high) (r : RunReady form img bits w h d n i c high) where
  ready : RunReady hfs img bits w h d n i c high
  ready = subst (λ (f : Form). RunReady f img bits w h d n i c high) q.is_hfs r

  pub can-begin : Runnable img bits p n i c high
  unfolding view_of
  can-begin = record { walkable = ready.walkable; readable = q.readable; count = ready.count; upto = r.upto }

  pub can-end : (after : List ℕ) (x : Run) → length w.last ≡ 8 → last_at w (d + 1) ≡ p → RanFor img bits after p n i c high x → Ran form img bits after w (h - 1) d n i c high x
  unfolding view_of
  can-end after x l e a =
      let y = a w d (let k = q.leaves in omega (arith, ready.levels)) (record { first = q.first; last = e; wide = l; small = r.small }) in
      subst (λ (f : Form). Ran f img bits after w (h - 1) d n i c high x) (sym q.is_hfs)
      (let k : h - 1 ≡ 0 = let z = q.leaves in omega arith in subst (λ (m : ℕ). Ran hfs img bits after w m d n i c high x) (sym k) y)
