-- Halving as the code makes it: the records left are those from low on and before high; and the record before its end.
-- Assumes nothing.
use mathlib.Core.Path.{◌≡◌, refl, sym, ap, ◌∙◌}
use mathlib.Core.Logic.{◌≢◌}
use mathlib.Core.Option.{none, some}
use Prim.Native.Nat.{ℕ, zero, suc, ◌+◌, ◌-◌, ◌/◌, ◌≤◌, ◌<◌}
use native.Mathlib.Omega.{arith}
use native.Mathlib.Nat.{sub-zero}
use native.Mathlib.Decide.{ℕ_discrete}
use Rattle.btree.specs.declared.Answer.TheVariants.{Found, Absent}
use Rattle.btree.specs.declared.Halved.{Halved}
use Rattle.btree.specs.Places.{record_place}
use Rattle.btree.specs.Tree.{View}
use Rattle.btree.specs.Halving.{compared_once, halved_from, halved, before}
use Rattle.btree.specs.Search.{in_leaf, halved_in, with_key}
use Rattle.btree.proofs.Decisions.{cond_yes, cond_no}
use Rattle.btree.proofs.Halving.{halved-end, halved-after, halved-before, halved-inside, few}

module _ (key : ℕ → ℕ) (k c : ℕ) where
  -- what is left of c records, and the keys compared so far, give what all give
  pub record Narrowed (low high compared : ℕ) : Type 0 where
    pub order : low ≤ high
    pub inside : high ≤ c
    pub ends : (halved_from key k low (high - low)).end ≡ (halved key k c).end
    pub counts : compared + (halved_from key k low (high - low)).compared ≡ (halved key k c).compared

  pub narrowed-start : Narrowed 0 c 0
  unfolding halved
  narrowed-start = record { order = omega arith; inside = omega arith; ends = rw (sub-zero c); counts = rw (sub-zero c) (omega arith) }

  module _ (low high compared : ℕ) (l : Narrowed low high compared) where
    -- a step to other bounds
    on-to : (low' high' : ℕ) → low' ≤ high' → high' ≤ c
        → halved_from key k low (high - low) ≡ compared_once (halved_from key k low' (high' - low')) → Narrowed low' high' (compared + 1)
    on-to low' high' o i e =
        record {
          order = o;
          inside = i;
          ends = sym (ap (λ (r : Halved). r.end) e) ∙ l.ends;
          counts = let q = ap (λ (r : Halved). r.compared) e in let w = l.counts in omega arith;
        }

    -- a count of 16 bits has at most 16 binary digits
    pub narrowed-few : c < 65536 → compared ≤ 16
    narrowed-few h = let f = few key k c 16 h in let w = l.counts in omega arith

    -- the middle one, counted from the first left
    from_low : low < high → (low + high) / 2 ≡ low + (high - low) / 2
    from_low h = omega arith

    pub narrowed-after : (x : ℕ) → low < high → x ≡ key ((low + high) / 2) → x ≤ k → Narrowed ((low + high) / 2 + 1) high (compared + 1)
    narrowed-after x h is u =
        let m = from_low h in
        let e : high - ((low + high) / 2 + 1) ≡ high - low - (high - low) / 2 - 1 = omega arith in
        on-to ((low + high) / 2 + 1) high (omega arith) l.inside (rw (e, m) (halved-after key k low (high - low) (omega arith) (rw (is, m) at u)))

    pub narrowed-before : (x : ℕ) → low < high → x ≡ key ((low + high) / 2) → k < x → Narrowed low ((low + high) / 2) (compared + 1)
    narrowed-before x h is u =
        let m = from_low h in
        let i = l.inside in
        let e : (low + high) / 2 - low ≡ (high - low) / 2 = omega arith in
        on-to low ((low + high) / 2) (omega arith) (omega arith) (rw e (halved-before key k low (high - low) (omega arith) (rw (is, m) at u)))

    pub narrowed-end : high ≤ low → record { end = low; compared = compared } ≡ halved key k c
    narrowed-end h =
        let e = halved-end key k low (high - low) (omega arith) in
        let p : low ≡ (halved key k c).end = sym (ap (λ (r : Halved). r.end) e) ∙ l.ends in
        let q : compared ≡ (halved key k c).compared = let z = ap (λ (r : Halved). r.compared) e in let w = l.counts in omega arith in
        λ i. record { end = p i; compared = q i }

pub before-none : (a : ℕ) → a ≡ 0 → before a ≡ none
before-none a e = rw e

pub before-some : (a : ℕ) → a ≢ 0 → before a ≡ some (a - 1)
before-some zero h = absurd (h refl)
before-some (suc i) h = let e : suc i - 1 ≡ i = omega arith in ap some (sym e)

-- halving ends among a node's records
pub ends-inside : (v : View) (k n : ℕ) (r : Halved) → r ≡ halved_in v k n → r.end ≤ v.count n
unfolding halved_in
ends-inside v k n r e = rw e (halved-inside (v.key n) k (v.count n))

-- what the leaf n says where halving ends at a
module _ (v : View) (k n a : ℕ) where
  pub leaf-none : a ≡ 0 → Absent n ≡ in_leaf v n (with_key v k n (before a))
  leaf-none e = rw (before-none a e)

  pub leaf-has : a ≢ 0 → v.key n (a - 1) ≡ k → Found (record_place v n (a - 1)) ≡ in_leaf v n (with_key v k n (before a))
  leaf-has h e = rw (before-some a h, cond_yes (ℕ_discrete (v.key n (a - 1)) k) _ _ e)

  pub leaf-other : a ≢ 0 → v.key n (a - 1) ≢ k → Absent n ≡ in_leaf v n (with_key v k n (before a))
  leaf-other h e = rw (before-some a h, cond_no (ℕ_discrete (v.key n (a - 1)) k) _ _ e)
