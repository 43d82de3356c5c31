-- A row of results, written one by one, and what each of them is.
-- Assumes nothing.
use mathlib.Core.Path.{◌≡◌, refl, sym, ap, ◌∙◌}
use mathlib.Core.List.{List, [], ◌∷◌, ◌++◌, map}
use Prim.Native.Nat.{ℕ, zero, suc, ◌+◌, ◌≤◌, ◌<◌}
use native.Mathlib.Omega.{arith}
use native.Mathlib.Numerals.{add-one}
use lib.ListN.{length, set, get_or, take, drop, length-map, get_or-append, get_or-map}
use lib.Seq.{paste, paste-zero, paste-suc, length-paste, take-length, drop_at}
use Rattle.btree.specs.Search.{answer_of}
use Rattle.btree.proofs.Decisions.{cond_yes, cond_no}
use Rattle.frame.specs.Form.{hfs}
use Rattle.extent_keys.specs.Key.{rank, unpacked, IsKey, dec_key}
use Rattle.formats.specs.Format.{view}
use Rattle.search.specs.Rows.{result_of, result_in, filled}

module _ (img : List ℕ) (number : ℕ) where
  pub result-no-key : (IsKey number → ⊥) → result_in img number ≡ 1
  unfolding result_in
  result-no-key h = cond_no (dec_key number) _ _ h

  pub result-key : IsKey number → result_in img number ≡ result_of img (answer_of (view hfs img) (rank (unpacked number)))
  unfolding result_in
  result-key h = cond_yes (dec_key number) _ _ h

map_at : (f : ℕ → ℕ) (l : List ℕ) (i : ℕ) → i < length l → get_or (map f l) i 0 ≡ f (get_or l i 0)
map_at f [] i h = absurd (omega arith)
map_at f (x ∷ xs) zero h = refl
map_at f (x ∷ xs) (suc i) h = map_at f xs i (omega arith)

module _ (result : ℕ → ℕ) (keys results : List ℕ) where
  pub filled_at : (i : ℕ) → i < length keys → get_or (filled result keys results) i 0 ≡ result (get_or keys i 0)
  filled_at i h = get_or-append (map result keys) _ 0 i (rw (length-map keys result) h) ∙ map_at result keys i h

  pub filled-beyond : drop (length keys) (filled result keys results) ≡ drop (length keys) results
  filled-beyond = drop_at (map result keys) _ (length keys) (length-map keys result)

  -- the first i results are written
  abbrev pub filled_to : ℕ → List ℕ
  filled_to i = paste results 0 (map result keys) i

  pub filled_none : results ≡ filled_to 0
  filled_none = paste-zero results 0 (map result keys)

  pub filled-all : filled_to (length keys) ≡ filled result keys results
  filled-all =
      let z : 0 + length keys ≡ length keys = omega arith in
      ap (λ (j : ℕ). take (length keys) (map result keys) ++ drop j results) z
      ∙ ap (λ (j : ℕ). take j (map result keys) ++ drop (length keys) results) (sym (length-map keys result))
      ∙ ap (λ (l : List ℕ). l ++ drop (length keys) results) (take-length (map result keys))

  module _ (fits : length keys ≤ length results) where
    pub filled-length : (i : ℕ) → i ≤ length keys → length (filled_to i) ≡ length results
    filled-length i h = length-paste results 0 (map result keys) i (omega arith) (rw (length-map keys result) h)

    pub filled-whole : length (filled result keys results) ≡ length results
    filled-whole = sym (ap length filled-all) ∙ filled-length (length keys) (omega arith)

    pub filled_more : (i : ℕ) → i < length keys → (r : ℕ) → r ≡ result (get_or keys i 0) → set (filled_to i) i r ≡ filled_to (i + 1)
    filled_more i h r e =
        let z : i ≡ 0 + i = omega arith in
        ap (λ (j : ℕ). set (filled_to i) j r) z
        ∙ ap (set (filled_to i) (0 + i)) (e ∙ sym (get_or-map result keys i 0))
        ∙ paste-suc results 0 (map result keys) i (result 0) (omega arith) (rw (length-map keys result) h)
        ∙ ap filled_to (sym (add-one i))
