-- What a check answers where working bytes are lent: 16 just where they are too few for an image of a right length, and else the verdict.
-- Assumes nothing.
use mathlib.Core.Path.{◌≡◌, sym, ap, ◌∙◌}
use mathlib.Core.Logic.Dec
use mathlib.Core.Logic.{◌≢◌, ⊎_elim}
use mathlib.Core.Bool.{true, false}
use mathlib.Core.List.{List}
use Prim.Native.Nat.{ℕ, ◌*◌, ◌≤◌, ◌<◌}
use native.Mathlib.Decide.{dec_le, dec_lt}
use native.Mathlib.Omega.{arith}
use Rattle.btree.specs.declared.Verdict.{Verdict}
use Rattle.btree.specs.Places.{image_start}
use Rattle.btree.specs.Lists.{◌∈◌}
use Rattle.btree.specs.Decide.{says, map_dec}
use Rattle.btree.specs.Layout.{Layout, Fits}
use Rattle.btree.specs.Tree.{reached}
use Rattle.btree.specs.Header.{Format, view_of}
use Rattle.btree.specs.Image.{Lengths, Sound}
use Rattle.btree.specs.Walk.{fails}
use Rattle.btree.specs.Tests.{dec_lengths, verdict}
use Rattle.btree.specs.Work.{needed, checked, TooFew, CheckSays}
use Rattle.btree.proofs.Decisions.{says-yes, says-no}
use Rattle.btree.proofs.First.{unless-true, unless-false}
use Rattle.btree.proofs.MapBits.{some-nodes, reached-in_range}
use Rattle.btree.proofs.Ordered.{fault-1}
use Rattle.btree.proofs.Ranged.{verdict-ranged}
use Rattle.btree.proofs.Soundness.{verdict-sound, sound-verdict}

-- the needed bytes have a bit for every node in use
pub in-use-fits : (l : Layout) → Fits l → (img : List ℕ) (f : Format) → Sound l img f → (n : ℕ) → n ∈ reached (view_of l f img) → n < 8 * needed l img
unfolding view_of
in-use-fits l fits img f s n m =
    let t = s.header.total_nodes in
    let p = some-nodes l fits img s.lengths t in
    let r = reached-in_range (view_of l f img) p s.chain.in_range s.tree n m in
    omega arith

module _ (l : Layout) (img : List ℕ) (f : Format) (lent : ℕ) where
  pub checked-1 : says (dec_lengths l img) ≡ false → checked l img f lent ≡ fails 1 image_start
  unfolding checked
  checked-1 e = unless-false (says (dec_lengths l img)) _ _ e

  module _ (e : says (dec_lengths l img) ≡ true) where
    pub checked-16 : lent < needed l img → checked l img f lent ≡ fails 16 image_start
    unfolding checked
    checked-16 h =
        unless-true (says (dec_lengths l img)) _ _ e
        ∙ unless-false (says (dec_le (needed l img) lent)) _ _ (says-no (dec_le (needed l img) lent) (λ q. omega arith))

    pub checked-on : needed l img ≤ lent → checked l img f lent ≡ verdict l img f
    unfolding checked
    checked-on h =
        unless-true (says (dec_lengths l img)) _ _ e
        ∙ unless-true (says (dec_le (needed l img) lent)) _ _ (says-yes (dec_le (needed l img) lent) h)

  dec_too_few : Dec (TooFew l img lent)
  dec_too_few = map_dec (λ (a, b). record { lengths = a; fewer = b }) (λ t. (t.lengths, t.fewer)) (Dec.and (dec_lengths l img) (dec_lt lent (needed l img)))

  pub of-few : TooFew l img lent → checked l img f lent ≡ fails 16 image_start
  of-few t = checked-16 (says-yes (dec_lengths l img) t.lengths) t.fewer

  -- the verdict wherever they are not too few
  pub checked-else : (TooFew l img lent → ⊥) → checked l img f lent ≡ verdict l img f
  checked-else h = go (dec_lengths l img) (dec_le (needed l img) lent)
    where
      go : Dec (Lengths l img) → Dec (needed l img ≤ lent) → checked l img f lent ≡ verdict l img f
      go (yes d) (yes e) = checked-on (says-yes (dec_lengths l img) d) e
      go (yes d) (no e) = absurd (h (record { lengths = d; fewer = omega arith }))
      go (no d) e = let q = says-no (dec_lengths l img) d in checked-1 q ∙ sym (fault-1 l img f q)

  -- "Demands 2 and 3 hold for every call that lends at least the needed bytes"
  checked-enough : needed l img ≤ lent → checked l img f lent ≡ verdict l img f
  checked-enough h = checked-else (λ t. let w = t.fewer in omega arith)

  -- the verdict's numbers end at 10
  verdict-most : (verdict l img f).number ≤ 10
  verdict-most = go (dec_lengths l img)
    where
      go : Dec (Lengths l img) → (verdict l img f).number ≤ 10
      go (yes d) = ⊎_elim (λ n. omega arith) (λ (a, b). omega arith) (verdict-ranged l img f (says-yes (dec_lengths l img) d)).range
      go (no d) = let n = ap (λ (t : Verdict). t.number) (fault-1 l img f (says-no (dec_lengths l img) d)) in omega arith

  -- so a number above 10 says that the bytes are too few
  above-10 : 10 < (checked l img f lent).number → TooFew l img lent
  above-10 h = go dec_too_few
    where
      go : Dec (TooFew l img lent) → TooFew l img lent
      go (yes t) = t
      go (no n) = let e = ap (λ (t : Verdict). t.number) (checked-else n) in let m = verdict-most in absurd (omega arith)

  few : (checked l img f lent).number ≡ 16 → TooFew l img lent
  few z = above-10 (omega arith)

  -- and no other but 16 is a check's
  pub checked-not : (n : ℕ) → 10 < n → n ≢ 16 → (checked l img f lent).number ≢ n
  checked-not n h d z = let e = ap (λ (t : Verdict). t.number) (of-few (above-10 (omega arith))) in d (omega arith)

  module _ (fits : Fits l) where
    sound-0 : (checked l img f lent).number ≡ 0 → Sound l img f × (needed l img ≤ lent)
    sound-0 z = go dec_too_few
      where
        go : Dec (TooFew l img lent) → Sound l img f × (needed l img ≤ lent)
        go (yes t) = let n = ap (λ (t : Verdict). t.number) (of-few t) in absurd (omega arith)
        go (no n) = let s = verdict-sound l fits img f (sym (ap (λ (t : Verdict). t.number) (checked-else n)) ∙ z) in (s, enough s (dec_le (needed l img) lent))
          where
            enough : Sound l img f → Dec (needed l img ≤ lent) → needed l img ≤ lent
            enough s (yes h) = h
            enough s (no h) = absurd (n (record { lengths = s.lengths; fewer = omega arith }))

    pub check-says : (r : Verdict) → r ≡ checked l img f lent → CheckSays l img f lent r
    check-says r q =
        let n = ap (λ (t : Verdict). t.number) q in
        record {
          sound = (λ z. sound-0 (sym n ∙ z), λ (s, h). n ∙ ap (λ (t : Verdict). t.number) (checked-enough h ∙ sound-verdict l fits img f s));
          of_few = λ t. q ∙ of-few t;
          only_few = λ z. few (sym n ∙ z);
          of_others = λ h. q ∙ checked-else h;
          of_enough = λ h. (q ∙ checked-enough h, λ z. let t = few (sym n ∙ z) in let w = t.fewer in omega arith);
        }
