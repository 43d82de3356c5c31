-- The first of the nodes that count and have a key, among as many as are searched.
-- Assumes nothing.
use mathlib.Core.Path.{◌≡◌, refl, sym, ap, subst, ◌∙◌}
use mathlib.Core.Logic.{◌↔◌}
use mathlib.Core.Option.{Option, none, some}
use mathlib.Core.List.{List}
use Prim.Native.Nat.{ℕ, zero, suc, ◌+◌, ◌-◌, ◌<◌, ◌≤◌}
use native.Mathlib.Omega.{arith}
use native.Mathlib.Decide.{ℕ_discrete, dec_lt}
use Rattle.btree.specs.declared.Place.{Place}
use Rattle.btree.specs.declared.Salvage.{Salvage}
use Rattle.btree.specs.declared.Salvage.TheVariants.{Seen, NotSeen, Refused}
use Rattle.btree.specs.Places.{record_place}
use Rattle.btree.specs.Decide.{cond}
use Rattle.btree.specs.Header.{count_of, view_of}
use Rattle.btree.specs.Search.{record_with}
use Rattle.btree.proofs.Answers.{with-some, with-before, with_none}
use Rattle.frame.specs.declared.form.Form.{Form}
use Rattle.frame.specs.Form.{layout_of}
use Rattle.formats.specs.Format.{view}
use Rattle.order.specs.Whole.{WholeLeaf, dec_whole_leaf}
use Rattle.scan.specs.Seen.{seen_in, seen_or, seen_from, First}

-- record i of the node n has the key k, and the node counts
pub record Has (form : Form) (img : List ℕ) (k n i : ℕ) : Type 0 where
  pub counts : WholeLeaf form img n
  pub inside : i < count_of (layout_of form) img n
  pub is_key : (view form img).key n i ≡ k

module _ (form : Form) (img : List ℕ) (k : ℕ) where
  pub seen-some : (n i : ℕ) → seen_in form img k n ≡ some i → Has form img k n i × ((j : ℕ) → j < i → Has form img k n j → ⊥)
  unfolding seen_in view_of
  seen-some n i = go (dec_whole_leaf form img n)
    where
      go : (q : Dec (WholeLeaf form img n)) → cond q (record_with (view form img) n k 0 (count_of (layout_of form) img n)) none ≡ some i → Has form img k n i × ((j : ℕ) → j < i → Has form img k n j → ⊥)
      go (yes w) e =
          let (a, b) = with-some (view form img) n k i e in
          (record { counts = w; inside = a; is_key = b }, λ j u h. with-before (view form img) n k i e j u h.is_key)
      go (no nw) e = absurd (let z : ◌≡◌ {A = ℕ} 0 1 = cc in omega arith)

  seen_none : (n : ℕ) → seen_in form img k n ≡ none → (j : ℕ) → Has form img k n j → ⊥
  unfolding seen_in view_of
  seen_none n = go (dec_whole_leaf form img n)
    where
      go : (q : Dec (WholeLeaf form img n)) → cond q (record_with (view form img) n k 0 (count_of (layout_of form) img n)) none ≡ none → (j : ℕ) → Has form img k n j → ⊥
      go (yes w) e j h = with_none (view form img) n k e j h.inside h.is_key
      go (no nw) e j h = nw h.counts

  -- what `seen_from` finds among as many nodes as are left from n on
  abbrev From : ℕ → ℕ → Salvage → Type 0
  From n left (Seen p) =
      (m : ℕ) × (i : ℕ) × (record_place (view form img) m i ≡ p)
      × (n ≤ m) × (m < n + left) × Has form img k m i × ((j : ℕ) → j < i → Has form img k m j → ⊥) × ((l j : ℕ) → n ≤ l → l < m → Has form img k l j → ⊥)
  From n left NotSeen = (l j : ℕ) → n ≤ l → l < n + left → Has form img k l j → ⊥
  From n left (Refused a b) = ⊥

  from : (left n : ℕ) → From n left (seen_from form img k n left)
  unfolding seen_from
  from zero n = λ l j a b h. absurd (omega arith)
  from (suc left) n = go (seen_in form img k n) refl (seen_from form img k (suc n) left) (from left (suc n))
    where
      past : seen_in form img k n ≡ none → (b : ℕ) → ((l j : ℕ) → suc n ≤ l → l < b → Has form img k l j → ⊥) → (l j : ℕ) → n ≤ l → l < b → Has form img k l j → ⊥
      past e b f l j u v h = here (ℕ_discrete l n)
        where
          here : Dec (l ≡ n) → ⊥
          here (yes q) = seen_none n e j (rw q at h)
          here (no q) = f l j (omega arith) v h

      go : (o : Option ℕ) → seen_in form img k n ≡ o → (r : Salvage) → From (suc n) left r → From n (suc left) (seen_or form img n o r)
      go (some i) e r f = let (a, b) = seen-some n i e in (n, i, refl, omega arith, omega arith, a, b, λ l j u v h. absurd (omega arith))
      go none e (Seen p) (m, i, q, a, b, c, d, f) = (m, i, q, omega arith, omega arith, c, d, past e m f)
      go none e NotSeen f = past e (n + suc left) (λ l j u v. f l j u (omega arith))
      go none e (Refused a b) f = f

  -- the scan refuses nothing
  pub never-refused : (n left a : ℕ) (p : Place) → seen_from form img k n left ≡ Refused a p → ⊥
  never-refused n left a p e = subst (From n left) e (from left n)

  -- the matches from node 1 up, of `total` nodes, in any words
  module _ (total : ℕ) (P : ℕ → ℕ → Type 0) (same : (n i : ℕ) → P n i ↔ ((1 ≤ n) × (n < total) × Has form img k n i)) where
    -- a first match that starts at p
    abbrev FirstAt : Place → Type 0
    FirstAt p = (n : ℕ) × (i : ℕ) × First P n i × (record_place (view form img) n i ≡ p)

    one-first : (n i m j : ℕ) → First P n i → First P m j → Dec (n < m) → Dec (m < n) → Dec (i < j) → Dec (j < i) → record_place (view form img) n i ≡ record_place (view form img) m j
    one-first n i m j a b (yes l) y z w = absurd (b.none_earlier n i l a.here)
    one-first n i m j a b (no x) (yes l) z w = absurd (a.none_earlier m j l b.here)
    one-first n i m j a b (no x) (no y) z w = let e : n ≡ m = omega arith in inside e z w
      where
        inside : n ≡ m → Dec (i < j) → Dec (j < i) → record_place (view form img) n i ≡ record_place (view form img) m j
        inside e (yes l) v = absurd (b.none_in_node i l (rw e at a.here))
        inside e (no u) (yes l) = absurd (a.none_in_node j l (rw (sym e) at b.here))
        inside e (no u) (no v) = let f : i ≡ j = omega arith in rw (e, f)

    first_of : (p : Place) → From 1 (total - 1) (Seen p) → FirstAt p
    first_of p (m, j, q, a, b, c, d, f) = (m, j, first, q)
      where
        first : First P m j
        first =
            record {
              here = (same m j).1 (a, omega arith, c);
              none_in_node = λ i l h. d i l ((same m i).0 h).2;
              none_earlier = λ l i u h. let (x, y, z) = (same l i).0 h in f l i x u z;
            }

    none_of : From 1 (total - 1) NotSeen → (n i : ℕ) → P n i → ⊥
    none_of f n i p = let (x, y, h) = (same n i).0 p in f n i x (omega arith) h

    pub seen-iff : (p : Place) → (seen_from form img k 1 (total - 1) ≡ Seen p) ↔ FirstAt p
    seen-iff p = (λ e. first_of p (subst (From 1 (total - 1)) e (from (total - 1) 1)), λ (n, i, a, q). go n i a q (seen_from form img k 1 (total - 1)) (from (total - 1) 1))
      where
        go : (n i : ℕ) → First P n i → record_place (view form img) n i ≡ p → (r : Salvage) → From 1 (total - 1) r → r ≡ Seen p
        go n i a q (Seen o) f =
            let (m, j, b, e) = first_of o f in ap Seen (sym e ∙ one-first m j n i b a (dec_lt m n) (dec_lt n m) (dec_lt j i) (dec_lt i j) ∙ q)
        go n i a q NotSeen f = absurd (none_of f n i a.here)
        go n i a q (Refused c d) f = absurd f

    pub not_seen-iff : (seen_from form img k 1 (total - 1) ≡ NotSeen) ↔ ((n i : ℕ) → P n i → ⊥)
    not_seen-iff = (λ e. none_of (subst (From 1 (total - 1)) e (from (total - 1) 1)), λ f. go f (seen_from form img k 1 (total - 1)) (from (total - 1) 1))
      where
        go : ((n i : ℕ) → P n i → ⊥) → (r : Salvage) → From 1 (total - 1) r → r ≡ NotSeen
        go g (Seen p) f = let (m, j, a, _) = first_of p f in absurd (g m j a.here)
        go g NotSeen f = refl
        go g (Refused a b) f = absurd f

    -- where there is a match, the first is seen
    pub some-seen : (n i : ℕ) → P n i → (m : ℕ) × (j : ℕ) × (seen_from form img k 1 (total - 1) ≡ Seen (record_place (view form img) m j)) × First P m j
    some-seen n i p = go (seen_from form img k 1 (total - 1)) (from (total - 1) 1)
      where
        go : (r : Salvage) → From 1 (total - 1) r → (m : ℕ) × (j : ℕ) × (r ≡ Seen (record_place (view form img) m j)) × First P m j
        go (Seen o) f = let (m, j, a, q) = first_of o f in (m, j, ap Seen (sym q), a)
        go NotSeen f = absurd (none_of f n i p)
        go (Refused a b) f = absurd f
