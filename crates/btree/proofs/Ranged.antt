-- Which numbers a verdict can have: 1 for an image of a wrong length, else 0 or one of 2 to 10.
-- Assumes nothing.
use mathlib.Core.Path.{◌≡◌, refl}
use mathlib.Core.Logic.Dec
use mathlib.Core.Logic.{◌⊎◌, inl, inr}
use mathlib.Core.Bool.{Bool, true, false}
use mathlib.Core.Option.{Option, none, some}
use mathlib.Core.List.{List, [], ◌∷◌}
use Prim.Native.Nat.{ℕ, zero, suc, ◌+◌, ◌*◌, ◌≤◌, pred}
use native.Mathlib.Decide.{ℕ_discrete, dec_le, dec_lt}
use native.Mathlib.Omega.{arith}
use lib.ListN.{length}
use Rattle.btree.specs.declared.Place.{Place}
use Rattle.btree.specs.declared.Verdict.{Verdict}
use Rattle.btree.specs.Places.{image_start, record_place}
use Rattle.btree.specs.Decide.{says, if_zero, dec_mem}
use Rattle.btree.specs.Layout.{Layout}
use Rattle.btree.specs.Tree.{View, reached}
use Rattle.btree.specs.Header.{Format, total_of, free_of, map_nodes, view_of}
use Rattle.btree.specs.Image.{map_size, map_bytes}
use Rattle.btree.specs.Walk.{fine, fails, unless, fails_at, or_else, Entry, last_on, first_on, records_on, tree_entries, dec_fresh, wrong_key, dec_leads, dec_totals, test, ends, closing, walk_from, walk}
use Rattle.btree.specs.Tests.{lowest_wrong, bit_for, bit_place, bit_test, dec_lengths, dec_header_node, dec_map_node, chain_from, map_tests, verdict}
use Rattle.btree.proofs.First.{unless-true}

pub record Ranged (v : Verdict) : Type 0 where
  pub range : (v.number ≡ 0) ⊎ ((2 ≤ v.number) × (v.number ≤ 10))

none-ranged : Ranged fine
none-ranged = record { range = inl refl }

-- a fault of this number
fault : (n : ℕ) {p : Place} → 2 ≤ n → n ≤ 10 → Ranged (fails n p)
fault n a b = record { range = inr (a, b) }

unless-ranged : (b : Bool) (c r : Verdict) → Ranged c → Ranged r → Ranged (unless b c r)
unless-ranged true c r p q = q
unless-ranged false c r p q = p

at-ranged : (f : ℕ) (at : ℕ → Place) (o : Option ℕ) (r : Verdict) → 2 ≤ f → f ≤ 10 → Ranged r → Ranged (fails_at f at o r)
at-ranged f at none r a b q = q
at-ranged f at (some i) r a b q = fault f a b

or-ranged : (t r : Verdict) → Ranged t → Ranged r → Ranged (or_else t r)
or-ranged t r p q = go t.number
  where
    go : (n : ℕ) → Ranged (if_zero n r t)
    go zero = q
    go (suc n) = p

module _ (v : View) where
  test-ranged : (b : Bool) (p : ℕ) (e : Entry) → Ranged (test v b p e)
  unfolding test
  test-ranged b p e =
      unless-ranged b _ _ (fault 4 (omega arith) (omega arith))
      (unless-ranged (says (v.dec_well_formed e.node e.level)) _ _ (fault 5 (omega arith) (omega arith))
      (at-ranged 6 (record_place v e.node) (wrong_key v e.low e.high e.node) _ (omega arith) (omega arith)
      (unless-ranged (says (ℕ_discrete (v.back e.node) p)) _ _ (fault 7 (omega arith) (omega arith))
      (unless-ranged (says (dec_leads v p e.node)) _ _ (fault 7 (omega arith) (omega arith)) none-ranged))))

  ends-ranged : (last : ℕ → ℕ) (d left : ℕ) (r : Verdict) → Ranged r → Ranged (ends v last d left r)
  unfolding ends
  ends-ranged last d zero r q = q
  ends-ranged last d (suc left) r q =
      unless-ranged (says (dec_leads v (last d) 0)) _ _ (fault 7 (omega arith) (omega arith)) (ends-ranged last (suc d) left r q)

  closing-ranged : (last : ℕ → ℕ) (first records : ℕ) → Ranged (closing v last first records)
  unfolding closing
  closing-ranged last first records =
      ends-ranged last 0 v.depth _
      (unless-ranged (says (dec_totals v first (last (pred v.depth)) records)) _ _ (fault 8 (omega arith) (omega arith)) none-ranged)

  from-ranged : (done es : List Entry) → Ranged (walk_from v done es)
  from-ranged done [] = closing-ranged (λ d. last_on d done) (first_on (pred v.depth) done) (records_on v (pred v.depth) done)
  from-ranged done (e ∷ es) =
      or-ranged (test v (says (dec_fresh v done e.node)) (last_on e.level done) e) (walk_from v (e ∷ done) es)
      (test-ranged (says (dec_fresh v done e.node)) (last_on e.level done) e) (from-ranged (e ∷ done) es)

  walk-ranged : Ranged (walk v)
  unfolding walk
  walk-ranged = from-ranged [] (tree_entries v v.depth)

module _ (l : Layout) (img : List ℕ) where
  chain-ranged : (met : List ℕ) (p : ℕ) (ns : List ℕ) → Ranged (chain_from l img met p ns)
  unfolding chain_from
  chain-ranged met p [] = unless-ranged (says (dec_le (total_of img) (8 * map_size l img))) _ _ (fault 3 (omega arith) (omega arith)) none-ranged
  chain-ranged met p (n ∷ ns) =
      unless-ranged (says (dec_lt n (total_of img))) _ _ (fault 3 (omega arith) (omega arith))
      (unless-ranged (says (Dec.not (dec_mem n met))) _ _ (fault 3 (omega arith) (omega arith))
      (unless-ranged (says (dec_map_node l img n)) _ _ (fault 3 (omega arith) (omega arith)) (chain-ranged (n ∷ met) n ns)))

  map-ranged : (ns : List ℕ) → Ranged (map_tests l img ns)
  unfolding map_tests bit_test
  map-ranged ns =
      or-ranged (bit_test l img (bit_for ns)) _
      (at-ranged 9 (bit_place l img) (lowest_wrong (bit_for ns) 0 (map_bytes l img)) fine (omega arith) (omega arith) none-ranged)
      (unless-ranged (says (ℕ_discrete (length ns + free_of img) (total_of img))) _ _ (fault 10 (omega arith) (omega arith)) none-ranged)

  module _ (f : Format) where
    pub verdict-ranged : says (dec_lengths l img) ≡ true → Ranged (verdict l img f)
    unfolding verdict
    verdict-ranged e =
        rw (unless-true (says (dec_lengths l img)) (fails 1 image_start) _ e)
        (unless-ranged (says (dec_header_node l img f.key_length)) _ _ (fault 2 (omega arith) (omega arith))
        (or-ranged (chain_from l img [] 0 (map_nodes l img)) _ (chain-ranged [] 0 (map_nodes l img))
        (or-ranged (walk (view_of l f img)) _ (walk-ranged (view_of l f img)) (map-ranged (reached (view_of l f img))))))
