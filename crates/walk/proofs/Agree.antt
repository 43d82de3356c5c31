-- The refinement: the steps along a list of entries, from a state that agrees with the entries done, and the tests at the end, find what the order of
-- tests finds along that list; and where the walk goes on to the end, the state agrees with all entries.
-- Assumes nothing.
use mathlib.Core.Path.{◌≡◌, refl, sym, ◌∙◌}
use mathlib.Core.Logic.{⊎_elim}
use mathlib.Core.List.Memᴰ
use mathlib.Core.List.{List, [], ◌∷◌, ◌++◌}
use Prim.Native.Nat.{ℕ, zero, suc, ◌+◌, ◌*◌, ◌/◌, ◌<◌, ◌≤◌, pred}
use native.Mathlib.Omega.{arith}
use native.Mathlib.Decide.{ℕ_discrete}
use lib.Dec.{eqb}
use lib.ListN.{length, get_or, set, length-set}
use lib.Seq.{get_or-set_same, get_or-set_other}
use borrow.Author.Tests.{eq-eqb, ne_eqb}
use Rattle.image.specs.Set.{with_bit}
use Rattle.image.proofs.Laws.{mark-length}
use Rattle.btree.specs.declared.Verdict.{Verdict}
use Rattle.btree.specs.Lists.{◌∈◌}
use Rattle.btree.specs.Decide.{cond, says}
use Rattle.btree.specs.Tree.{View, map_chain}
use Rattle.btree.specs.Walk.{Entry, nodes_of, last_on, first_or, first_on, records_on, tree_entries, Fresh, dec_fresh, test, ends, closing, walk_from, walk}
use Rattle.btree.proofs.Decisions.{said}
use Rattle.btree.proofs.Clean.{test_zero}
use Rattle.btree.proofs.TreeRules.{tree-deep}
use Rattle.btree.proofs.Ordered.{if-zero, if-other}
use Rattle.btree.proofs.MapBits.{bit-for, bit_not}
use Rattle.btree.specs.Tells.{pick}
use Rattle.step.specs.declared.state.Walk.{Walk}
use Rattle.step.specs.State.{State, fresh_in, first_with, kept, last_at, step, steps}
use Rattle.step.specs.State.State.{going, stopped}
use Rattle.step.proofs.Lands.{step-stops, step_keeps}
use Rattle.walk.proofs.Steps.{steps-stopped}
use Rattle.step.proofs.Fresh.{Free, free-says}
use Rattle.chain.specs.Frame.{Marks}
use Rattle.chain.proofs.Marks.{marks-more}

-- what a walk that stands so finds in all
unfoldable pub finish : View → State → Verdict
finish v (going b w) = closing v (last_at w) w.first w.records
finish v (stopped b w t) = t

-- the nodes met, with the header and the map chain
abbrev pub met : View → List Entry → List ℕ
met v done = nodes_of done ++ (0 ∷ map_chain v)

-- the state is that after the entries done
pub record Agrees (v : View) (b : List ℕ) (w : Walk) (done : List Entry) : Type 0 where
  pub long : v.total ≤ 8 * length b
  pub wide : length w.last ≡ 8
  pub marks : Marks b (met v done)
  pub lasts : (d : ℕ) → d < 8 → last_at w d ≡ last_on d done
  pub first : w.first ≡ first_on (pred v.depth) done
  pub records : w.records ≡ records_on v (pred v.depth) done
  pub nodes : w.nodes ≡ length (met v done)

-- where the walk goes on
abbrev pub AgreesOn : View → State → List Entry → Type 0
AgreesOn v (going b w) done = Agrees v b w done
AgreesOn v (stopped b w t) done = Unit {0}

-- the entries es after those done, the latest first
abbrev pub onto : List Entry → List Entry → List Entry
onto [] done = done
onto (e ∷ es) done = onto es (e ∷ done)

module _ (v : View) (shallow : v.depth ≤ 8) where
  -- test 4 is the same
  fresh-agree : (b : List ℕ) (w : Walk) (done : List Entry) → Agrees v b w done → (n : ℕ) → fresh_in v.total b n ≡ says (dec_fresh v done n)
  fresh-agree b w done a n = free-says v.total b n (dec_fresh v done n) on (λ f. record { range = f.range; unmarked = a.marks n ∙ bit_not (met v done) n (off f) })
    where
      off : Fresh v done n → n ∈ met v done → ⊥
      off f m =
          ⊎_elim f.new (λ k. ⊎_elim (λ e. let z = f.pos in omega arith) f.off_chain (Memᴰ.cases_cons k))
          (Memᴰ.append_cases (nodes_of done) m)

      on : Free v.total b n → Fresh v done n
      on f =
          record {
            pos = positive n refl;
            range = f.range;
            off_chain = λ m. marked (Memᴰ.append_right (nodes_of done) (Memᴰ.tail m));
            new = λ m. marked (Memᴰ.append_left {s = nodes_of done} (0 ∷ map_chain v) m);
          }
        where
          marked : n ∈ met v done → ⊥
          marked m = let k = f.unmarked in let e = a.marks n ∙ bit-for (met v done) n m in omega arith

          positive : (k : ℕ) → n ≡ k → 0 < n
          positive zero e = absurd (marked (Memᴰ.append_right (nodes_of done) (Memᴰ.head e)))
          positive (suc k) e = omega arith

  -- a node that passed is kept on both sides
  module _ (b : List ℕ) (w : Walk) (done : List Entry) (a : Agrees v b w done) (e : Entry) (range : e.node < v.total) (deep : e.level < v.depth) where
    keep-agree : Agrees v (with_bit b e.node) (kept w e.node e.level (eqb (e.level + 1) v.depth) (v.count e.node)) (e ∷ done)
    unfolding kept first_with
    keep-agree =
        record {
          long = rw (mark-length b e.node) a.long;
          wide = rw length-set a.wide;
          marks = marks-more b (met v done) e.node room a.marks;
          lasts = λ d l. last d l (ℕ_discrete e.level d);
          first = first (ℕ_discrete e.level (pred v.depth));
          records = records (ℕ_discrete e.level (pred v.depth));
          nodes = let k = a.nodes in omega arith;
        }
      where
        room : e.node / 8 < length b
        room = let k = a.long in omega arith

        last : (d : ℕ) → d < 8 → (q : Dec (e.level ≡ d)) → get_or (set w.last e.level e.node) d 0 ≡ cond q e.node (last_on d done)
        last d l (yes q) = rw (sym q) (get_or-set_same w.last e.level e.node 0 (let k = a.wide in omega arith))
        last d l (no nq) = get_or-set_other w.last e.level d e.node 0 (λ z. nq (sym z)) ∙ a.lasts d l

        first : (q : Dec (e.level ≡ pred v.depth)) → pick (eqb (e.level + 1) v.depth) (first_or w.first e.node) w.first ≡ cond q (first_or (first_on (pred v.depth) done) e.node) (first_on (pred v.depth) done)
        first (yes q) = rw (eq-eqb (e.level + 1) v.depth (omega arith), a.first)
        first (no nq) = rw (ne_eqb (e.level + 1) v.depth (λ z. nq (omega arith)), a.first)

        records : (q : Dec (e.level ≡ pred v.depth)) → w.records + pick (eqb (e.level + 1) v.depth) (v.count e.node) 0 ≡ cond q (records_on v (pred v.depth) done + v.count e.node) (records_on v (pred v.depth) done)
        records (yes q) = rw (eq-eqb (e.level + 1) v.depth (omega arith), a.records)
        records (no nq) = rw (ne_eqb (e.level + 1) v.depth (λ z. nq (omega arith)), a.records) (omega arith)

  -- the end
  ends-agree : (p q : ℕ → ℕ) (d left : ℕ) (r : Verdict) → ((e : ℕ) → e < d + left → p e ≡ q e) → ends v p d left r ≡ ends v q d left r
  unfolding ends
  ends-agree p q d zero r h = refl
  ends-agree p q d (suc left) r h = rw (h d (omega arith), ends-agree p q (suc d) left r (λ e l. h e (omega arith)))

  closing-agree : (b : List ℕ) (w : Walk) (done : List Entry) → Agrees v b w done
      → closing v (last_at w) w.first w.records ≡ closing v (λ d. last_on d done) (first_on (pred v.depth) done) (records_on v (pred v.depth) done)
  unfolding closing
  closing-agree b w done a =
      rw (a.first, a.records, a.lasts (pred v.depth) (omega arith))
      (ends-agree (last_at w) (λ d. last_on d done) 0 v.depth _ (λ e l. a.lasts e (omega arith)))

  -- what a walk that comes to this state along the entries es finds, and what it keeps where it goes on
  record Along (s : State) (done es : List Entry) : Type 0 where
    finds : finish v s ≡ walk_from v done es
    keeps : AgreesOn v s (onto es done)

  steps-walk : (done es : List Entry) (b : List ℕ) (w : Walk) → Agrees v b w done → ((x : Entry) → x ∈ es → x.level < v.depth) → Along (steps v (going b w) es) done es
  unfolding steps finish
  steps-walk done [] b w a deep = record { finds = closing-agree b w done a; keeps = a }
  steps-walk done (e ∷ es) b w a deep = go t.number refl (steps-walk (e ∷ done) es)
    where
      t : Verdict
      t = test v (says (dec_fresh v done e.node)) (last_on e.level done) e

      level : e.level < v.depth
      level = deep e (Memᴰ.head refl)

      is : t ≡ test v (fresh_in v.total b e.node) (last_at w e.level) e
      is = rw (fresh-agree b w done a e.node, a.lasts e.level (omega (arith, level)))

      go : (n : ℕ) → t.number ≡ n
          → ((c : List ℕ) (x : Walk) → Agrees v c x (e ∷ done) → ((y : Entry) → y ∈ es → y.level < v.depth) → Along (steps v (going c x) es) (e ∷ done) es)
          → Along (steps v (step v (going b w) e) es) done (e ∷ es)
      go zero q r =
          let k = r _ _ (keep-agree b w done a e (said (dec_fresh v done e.node) (test_zero v _ _ e q).0).range level) (λ y m. deep y (Memᴰ.tail m)) in
          rw (step_keeps v b w e t is q) (record { finds = k.finds ∙ sym (if-zero t.number _ _ q); keeps = k.keeps })
      go (suc n) q r =
          let bad : t.number ≡ 0 → ⊥ = λ z. omega arith in
          rw (step-stops v b w e t is bad, steps-stopped v b w t es) (record { finds = sym (if-other t.number _ _ bad); keeps = tt })

  -- the whole tree
  module _ (b : List ℕ) (w : Walk) (a : Agrees v b w []) (s : State) (is : s ≡ steps v (going b w) (tree_entries v v.depth)) where
    all : Along s [] (tree_entries v v.depth)
    all = rw is (steps-walk [] (tree_entries v v.depth) b w a (tree-deep v v.depth refl))

    pub tree-finds : finish v s ≡ walk v
    unfolding walk
    tree-finds = all.finds

    pub tree-keeps : AgreesOn v s (onto (tree_entries v v.depth) [])
    tree-keeps = all.keeps
