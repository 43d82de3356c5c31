-- The arithmetic of the shape.
-- Assumes nothing.
use mathlib.Core.Path.{◌≡◌, refl, sym, ap, ◌∙◌}
use Prim.Native.Nat.{ℕ, zero, suc, ◌+◌, ◌-◌, ◌*◌, ◌/◌, ◌≤◌, ◌<◌}
use native.Mathlib.Nat.{suc-mul}
use native.Mathlib.Omega.{arith}
use native.Mathlib.Decide.{ℕ_discrete, dec_le}
use Rattle.btree.specs.Decide.{cond}
use Rattle.shape.specs.Shape.{fanout, first_in, groups, record_under, entries_at, nodes_at, held, start, levels_above, levels}
use Rattle.shape.proofs.Shaped.{tree_size, Deep}

pub first-zero : (h : ℕ) → first_in h 0 ≡ 0
unfolding first_in
first-zero zero = refl
first-zero (suc h) = refl

pub first-suc : (h k : ℕ) → first_in h (suc k) ≡ first_in h k + fanout h
unfolding first_in fanout
first-suc zero k = omega arith
first-suc (suc h) k = omega arith

pub fanout-some : (h : ℕ) → 0 < fanout h
unfolding fanout
fanout-some zero = omega arith
fanout-some (suc h) = omega arith

pub first-mono : (h k l : ℕ) → k < l → first_in h k + fanout h ≤ first_in h l
unfolding first_in fanout
first-mono zero k l p = omega arith
first-mono (suc h) k l p = omega arith

pub group-low : (h e k : ℕ) → k < groups h e → first_in h k < e
unfolding first_in groups
group-low zero e k p = omega arith
group-low (suc h) e k p = omega arith

-- so many nodes hold all the entries
pub group-all : (h e k : ℕ) → groups h e ≤ k → e ≤ first_in h k
unfolding first_in groups
group-all zero e k p = omega arith
group-all (suc h) e k p = omega arith

pub group-least : (h e k : ℕ) → e ≤ first_in h k → groups h e ≤ k
unfolding first_in groups
group-least zero e k p = omega arith
group-least (suc h) e k p = omega arith

pub row-mono : (h p q : ℕ) → p < q → record_under h p < record_under h q
unfolding record_under
row-mono zero p q l = l
row-mono (suc h) p q l = row-mono h (first_in h p) (first_in h q) (let a = first-mono h p q l in let b = fanout-some h in omega arith)

pub row-le : (h p q : ℕ) → p ≤ q → record_under h p ≤ record_under h q
row-le h p q l = go (ℕ_discrete p q)
  where
    go : Dec (p ≡ q) → record_under h p ≤ record_under h q
    go (yes e) = rw e (omega arith)
    go (no ne) = let a = row-mono h p q (omega arith) in omega arith

pub row_step : (h q : ℕ) → record_under (suc h) q ≡ record_under h (first_in h q)
unfolding record_under
row_step h q = refl

-- an entry's row is one of the row's
pub row_inside : (r h q : ℕ) → q < entries_at r h → record_under h q < r
unfolding record_under entries_at
row_inside r zero q l = l
row_inside r (suc h) q l = row_inside r h (first_in h q) (group-low h (entries_at r h) q l)

-- of the entries of node k
module _ (r h k : ℕ) where
  pub held-most : held r h k ≤ fanout h
  unfolding held
  held-most = omega arith

  pub held-inside : (i : ℕ) → i < held r h k → first_in h k + i < entries_at r h
  unfolding held
  held-inside i l = omega arith

  pub held-some : k < nodes_at r h → 0 < held r h k
  unfolding held entries_at
  held-some l = let a = group-low h (entries_at r h) k l in let b = fanout-some h in omega arith

  -- a node that is not the last is full
  pub held-full : suc k < nodes_at r h → held r h k ≡ fanout h
  unfolding held entries_at
  held-full l = let a = group-low h (entries_at r h) (suc k) l in let b = first-suc h k in omega arith

  -- the last has the rest
  pub held-rest : suc k ≡ nodes_at r h → first_in h k + held r h k ≡ entries_at r h
  unfolding held entries_at
  held-rest l =
      let a = group-all h (entries_at r h) (suc k) (omega arith) in
      let b = first-suc h k in
      let c = group-low h (entries_at r h) k (omega arith) in
      omega arith

pub nodes-low : (r h k : ℕ) → k < nodes_at r h → first_in h k < entries_at r h
unfolding entries_at
nodes-low r h k l = group-low h (entries_at r h) k l

pub nodes-all : (r h k : ℕ) → nodes_at r h ≤ k → entries_at r h ≤ first_in h k
unfolding entries_at
nodes-all r h k l = group-all h (entries_at r h) k l

pub start-step : (m r h : ℕ) → start m r (suc h) ≡ start m r h + nodes_at r h
unfolding start
start-step m r h = refl

pub start_first : (m r : ℕ) → start m r 0 ≡ 1 + m
unfolding start
start_first m r = refl

pub start-low : (m r h : ℕ) → 1 + m ≤ start m r h
unfolding start
start-low m r zero = omega arith
start-low m r (suc h) = let a = start-low m r h in omega arith

pub start-mono : (m r g h : ℕ) → g < h → start m r g + nodes_at r g ≤ start m r h
unfolding start
start-mono m r g zero l = absurd (omega arith)
start-mono m r g (suc h) l = go (ℕ_discrete g h) (start-mono m r g h)
  where
    go : Dec (g ≡ h) → (g < h → start m r g + nodes_at r g ≤ start m r h) → start m r g + nodes_at r g ≤ start m r h + nodes_at r h
    go (yes e) f = rw e (omega arith)
    go (no ne) f = let a = f (omega arith) in omega arith

pub start-size : (m r D : ℕ) → start m r D ≡ 1 + m + tree_size r D
unfolding start tree_size
start-size m r zero = omega arith
start-size m r (suc h) = let a = start-size m r h in omega arith

-- the levels
abbrev power : ℕ → ℕ
power zero = 1
power (suc f) = 35 * power f

pub above_most : (f n : ℕ) → levels_above f n ≤ f
unfolding levels_above
above_most zero n = omega arith
above_most (suc f) n = go (dec_le n 1) (above_most f ((n + 34) / 35))
  where
    go : (d : Dec (n ≤ 1)) → levels_above f ((n + 34) / 35) ≤ f → cond d 0 (suc (levels_above f ((n + 34) / 35))) ≤ suc f
    go (yes p) a = omega arith
    go (no p) a = omega arith

pub levels-most : (r : ℕ) → levels r ≤ 8
unfolding levels
levels-most r = go (ℕ_discrete r 0) (above_most 7 ((r + 21) / 22))
  where
    go : (d : Dec (r ≡ 0)) → levels_above 7 ((r + 21) / 22) ≤ 7 → cond d 0 (suc (levels_above 7 ((r + 21) / 22))) ≤ 8
    go (yes p) a = omega arith
    go (no p) a = omega arith

pub leaf-nodes : (r : ℕ) → nodes_at r 0 ≡ (r + 21) / 22
unfolding entries_at groups
leaf-nodes r = refl

pub index-nodes : (r h : ℕ) → nodes_at r (suc h) ≡ (nodes_at r h + 34) / 35
unfolding entries_at groups
index-nodes r h = refl

-- from height h on
record Top (r h x : ℕ) : Type 0 where
  top : nodes_at r (h + x) ≡ 1
  more : (y : ℕ) → y < x → 2 ≤ nodes_at r (h + y)

above-top : (r f h : ℕ) → 1 ≤ nodes_at r h → nodes_at r h ≤ power f → Top r h (levels_above f (nodes_at r h))
unfolding levels_above
above-top r zero h s l = record { top = let z : h + 0 ≡ h = omega arith in rw z (omega arith); more = λ y p. absurd (omega arith) }
above-top r (suc f) h s l = go (dec_le (nodes_at r h) 1) (λ a b. above-top r f (suc h) a b)
  where
    go : (d : Dec (nodes_at r h ≤ 1)) → (1 ≤ nodes_at r (suc h) → nodes_at r (suc h) ≤ power f → Top r (suc h) (levels_above f (nodes_at r (suc h)))) → Top r h (cond d 0 (suc (levels_above f ((nodes_at r h + 34) / 35))))
    go (yes p) k = record { top = let z : h + 0 ≡ h = omega arith in rw z (omega arith); more = λ y q. absurd (omega arith) }
    go (no p) k = rw (← index-nodes r h) (more-top (k (omega (arith, index-nodes r h)) (omega (arith, index-nodes r h))))
      where
        more-top : {x : ℕ} → Top r (suc h) x → Top r h (suc x)
        more-top {x} t = record {
          top = let z : h + suc x ≡ suc h + x = omega arith in rw z t.top;
          more = λ y q. at y q (ℕ_discrete y 0);
        }
          where
            at : (y : ℕ) → y < suc x → Dec (y ≡ 0) → 2 ≤ nodes_at r (h + y)
            at y q (yes e) = let z : h + y ≡ h = omega arith in rw z (omega arith)
            at y q (no ne) = let z : h + y ≡ suc h + (y - 1) = omega arith in rw z (t.more (y - 1) (omega arith))

pub levels-deep : (r : ℕ) → r ≤ 1441792 → Deep r (levels r)
unfolding levels
levels-deep r l = go (ℕ_discrete r 0)
  where
    go : (d : Dec (r ≡ 0)) → Deep r (cond d 0 (suc (levels_above 7 ((r + 21) / 22))))
    go (yes p) = record { none = λ e. p; some = λ e. refl; top = λ h e. absurd (omega arith); more = λ h q. absurd (omega arith) }
    go (no p) = rw (← leaf-nodes r) (deep (above-top r 7 0 (omega (arith, leaf-nodes r)) (omega (arith, leaf-nodes r))))
      where
        deep : {x : ℕ} → Top r 0 x → Deep r (suc x)
        deep {x} t = record {
          none = λ e. absurd (omega arith);
          some = λ e. absurd (p e);
          top = λ h e. let z : 0 + x ≡ h = omega arith in rw z at t.top;
          more = λ h q. let z : 0 + h ≡ h = omega arith in rw z at (t.more h (omega arith));
        }

pub nodes-some : {r D : ℕ} → Deep r D → (h : ℕ) → h < D → 1 ≤ nodes_at r h
nodes-some {r} {D} deep h l = go (ℕ_discrete (suc h) D)
  where
    go : Dec (suc h ≡ D) → 1 ≤ nodes_at r h
    go (yes e) = let a = deep.top h (sym e) in omega arith
    go (no ne) = let a = deep.more h (omega arith) in omega arith

levels-none : (r : ℕ) → levels r ≡ 0 → r ≡ 0
unfolding levels
levels-none r = go (ℕ_discrete r 0)
  where
    go : (d : Dec (r ≡ 0)) → cond d 0 (suc (levels_above 7 ((r + 21) / 22))) ≡ 0 → r ≡ 0
    go (yes e) z = e
    go (no n) z = absurd (omega arith)

-- a tree that fits has few records
pub records-few : (m r : ℕ) → start m r (levels r) ≤ 65536 → r ≤ 1441792
records-few m r l = go (ℕ_discrete (levels r) 0)
  where
    go : Dec (levels r ≡ 0) → r ≤ 1441792
    go (yes e) = let z = levels-none r e in omega arith
    go (no n) = let a = start-mono m r 0 (levels r) (omega arith) in let b = leaf-nodes r in omega arith

-- rows go up by the same step
first-linear : (h a b : ℕ) → first_in h (a + b) ≡ first_in h a + first_in h b
unfolding first_in
first-linear zero a b = omega arith
first-linear (suc h) a b = omega arith

pub row-linear : (h a b : ℕ) → record_under h (a + b) ≡ record_under h a + record_under h b
unfolding record_under
row-linear zero a b = refl
row-linear (suc h) a b = ap (record_under h) (first-linear h a b) ∙ row-linear h (first_in h a) (first_in h b)

row_zero : (h : ℕ) → record_under h 0 ≡ 0
unfolding record_under
row_zero zero = refl
row_zero (suc h) = ap (record_under h) (first-zero h) ∙ row_zero h

pub row-scale : (h q : ℕ) → record_under h q ≡ q * record_under h 1
row-scale h zero = let z : 0 * record_under h 1 ≡ 0 = omega arith in row_zero h ∙ sym z
row-scale h (suc q) =
    let z : suc q ≡ q + 1 = omega arith in
    ap (record_under h) z ∙ row-linear h q 1 ∙ ap (λ x. x + record_under h 1) (row-scale h q) ∙ sym (suc-mul q (record_under h 1))
