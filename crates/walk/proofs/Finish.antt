-- The tests of the whole tree, from the header and the map chain to the nodes reached.
-- Assumes nothing.
use mathlib.Core.Path.{◌≡◌, refl}
use mathlib.Core.Logic.{◌⊎◌, inl, inr, ⊎_elim}
use mathlib.Core.List.Memᴰ
use mathlib.Core.List.{List, [], ◌∷◌}
use Prim.Native.Nat.{ℕ, suc, ◌+◌, ◌*◌, ◌≤◌}
use native.Mathlib.Omega.{arith}
use lib.ListN.{length, replicate, length-append, length-replicate, get_or-replicate}
use Rattle.btree.specs.Lists.{◌∈◌}
use Rattle.btree.specs.Tree.{View, map_chain, tree_nodes, reached}
use Rattle.btree.specs.Walk.{Entry, nodes_of, tree_entries}
use Rattle.chain.specs.Frame.{Marks}
use Rattle.chain.proofs.Marks.{marks-same}
use Rattle.btree.proofs.Reached.{tree-size, entry-reached, reached-entry}
use Rattle.walk.proofs.Agree.{met, Agrees, onto}

onto-mem : (n : ℕ) (es done : List Entry) → n ∈ nodes_of (onto es done) → (n ∈ nodes_of es) ⊎ (n ∈ nodes_of done)
onto-mem n [] done m = inr m
onto-mem n (e ∷ es) done m =
    ⊎_elim (λ a. inl (Memᴰ.tail a)) (λ a. ⊎_elim (λ q. inl (Memᴰ.head q)) inr (Memᴰ.cases_cons a)) (onto-mem n es (e ∷ done) m)

mem-onto : (n : ℕ) (es done : List Entry) → (n ∈ nodes_of es) ⊎ (n ∈ nodes_of done) → n ∈ nodes_of (onto es done)
mem-onto n [] done m = ⊎_elim (λ a. absurd (Memᴰ.not-nil a)) (λ a. a) m
mem-onto n (e ∷ es) done m =
    mem-onto n es (e ∷ done)
    (⊎_elim (λ a. ⊎_elim (λ q. inr (Memᴰ.head q)) inl (Memᴰ.cases_cons a)) (λ a. inr (Memᴰ.tail a)) m)

onto-size : (es done : List Entry) → length (nodes_of (onto es done)) ≡ length es + length (nodes_of done)
onto-size [] done = omega arith
onto-size (e ∷ es) done = let k = onto-size es (e ∷ done) in omega arith

module _ (v : View) where
  -- the nodes met at the end are those reached from the header
  met-reached : (n : ℕ) → n ∈ met v (onto (tree_entries v v.depth) []) → n ∈ reached v
  met-reached n m =
      ⊎_elim
      (λ a. ⊎_elim (λ b. Memᴰ.tail (Memᴰ.append_right (map_chain v) (entry-reached v n b))) (λ b. absurd (Memᴰ.not-nil b)) (onto-mem n (tree_entries v v.depth) [] a))
      (λ a. ⊎_elim Memᴰ.head (λ b. Memᴰ.tail (Memᴰ.append_left {s = map_chain v} (tree_nodes v) b)) (Memᴰ.cases_cons a))
      (Memᴰ.append_cases (nodes_of (onto (tree_entries v v.depth) [])) m)

  reached-met : (n : ℕ) → n ∈ reached v → n ∈ met v (onto (tree_entries v v.depth) [])
  reached-met n m =
      ⊎_elim (λ e. later (Memᴰ.head e))
      (λ a. ⊎_elim (λ b. later (Memᴰ.tail b))
      (λ b. Memᴰ.append_left {s = nodes_of (onto (tree_entries v v.depth) [])} (0 ∷ map_chain v) (mem-onto n (tree_entries v v.depth) [] (inl (reached-entry v n b))))
      (Memᴰ.append_cases (map_chain v) a))
      (Memᴰ.cases_cons m)
    where
      later : n ∈ 0 ∷ map_chain v → n ∈ met v (onto (tree_entries v v.depth) [])
      later = Memᴰ.append_right (nodes_of (onto (tree_entries v v.depth) []))

  pub marks-reached : (bits : List ℕ) → Marks bits (met v (onto (tree_entries v v.depth) [])) → Marks bits (reached v)
  marks-reached bits = marks-same bits (met v (onto (tree_entries v v.depth) [])) (reached v) met-reached reached-met

  pub size-reached : length (met v (onto (tree_entries v v.depth) [])) ≡ length (reached v)
  size-reached =
      let a = length-append (nodes_of (onto (tree_entries v v.depth) [])) (0 ∷ map_chain v) in
      let b = onto-size (tree_entries v v.depth) [] in
      let c = tree-size v in
      let d = length-append (map_chain v) (tree_nodes v) in
      omega arith

-- the state before the walk agrees with no entries
pub begun : (v : View) (b : List ℕ) (nodes : ℕ) → v.total ≤ 8 * length b → Marks b (0 ∷ map_chain v) → nodes ≡ suc (length (map_chain v))
    → Agrees v b (record { last = replicate 8 0; records = 0; first = 0; nodes = nodes }) []
begun v b nodes long marks count =
    record { long = long; wide = length-replicate {A = ℕ} 8 0; marks = marks; lasts = λ d h. get_or-replicate 8 d 0 0 h; first = refl; records = refl; nodes = count }
