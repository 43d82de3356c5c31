-- The map chain, as code walks along it: what is left from a node on gives what all of it gives from the header.
-- Assumes nothing.
use mathlib.Core.Path.{◌≡◌, refl, sym, ap, ◌∙◌}
use mathlib.Core.Logic.Dec
use mathlib.Core.Logic.{◌⊎◌, ⊎_elim}
use mathlib.Core.Bool.{true, false}
use mathlib.Core.List.Memᴰ
use mathlib.Core.List.{List, [], ◌∷◌, reverse_aux}
use Rattle.std.specs.Prelude.{Err}
use Prim.Native.Nat.{ℕ, suc, ◌+◌, ◌-◌, ◌*◌, ◌≤◌, ◌<◌}
use native.Mathlib.Decide.{dec_le, dec_lt}
use native.Mathlib.Omega.{arith}
use lib.ListN.{length, replicate, length-replicate, length-reverse_aux}
use Rattle.image.specs.Set.{member, with_bit}
use Rattle.image.proofs.Laws.{mark-length}
use Rattle.btree.specs.declared.fault.Refusal.TheVariants.{MapChain}
use Rattle.btree.specs.declared.fault.Fault.{Fault}
use Rattle.btree.specs.Faults.{fault_at}
use Rattle.btree.specs.Places.{node_place}
use Rattle.btree.specs.Lists.{◌∈◌, along}
use Rattle.btree.specs.Decide.{says, dec_mem}
use Rattle.btree.specs.Layout.{Layout}
use Rattle.btree.specs.Header.{total_of, forward_of, map_nodes}
use Rattle.btree.specs.Image.{map_size}
use Rattle.btree.specs.Walk.{fine, fails}
use Rattle.btree.specs.Tests.{dec_map_node, chain_from}
use Rattle.btree.proofs.Decisions.{says-yes, says-no, said, unsaid}
use Rattle.btree.proofs.First.{unless-true, unless-false}
use Rattle.btree.proofs.Along.{along-on, along-end, back-cases, back-met}
use Rattle.frame.specs.declared.form.Form.{Form}
use Rattle.frame.specs.Form.{layout_of}
use Rattle.chain.specs.Frame.{Marks, ChainOf}
use Rattle.chain.proofs.Marks.{marks-none, marks-more, marks-same, member-says}

-- the chain's nodes from `last` on, without `last`
abbrev pub rest : Layout → List ℕ → ℕ → ℕ → List ℕ
rest l img last left = along (forward_of l img) left (forward_of l img last)

-- the state at `last`, the latest of the map nodes met, or the header
pub record Passed (l : Layout) (img bits : List ℕ) (nodes last left : ℕ) : Type 0 where
  pub met : List ℕ
  pub verdict : chain_from l img [] 0 (map_nodes l img) ≡ chain_from l img met last (rest l img last left)
  pub split : map_nodes l img ≡ reverse_aux met (rest l img last left)
  pub count : nodes ≡ suc (length met)
  pub used : left + length met ≡ total_of img
  pub marks : Marks bits (0 ∷ met)
  pub enough : total_of img ≤ 8 * length bits

-- the state, and the link from `last` to a node n
pub record Linked (l : Layout) (img bits : List ℕ) (nodes last left n : ℕ) : Type 0 where
  pub passed : Passed l img bits nodes last left
  pub more : 0 < left
  pub link : n ≡ forward_of l img last
  pub some : n ≡ 0 → ⊥

pub passed_none : (l : Layout) (img : List ℕ) (k : ℕ) → 0 < total_of img → total_of img ≤ 8 * k → Passed l img (with_bit (replicate k 0) 0) 1 0 (total_of img)
passed_none l img k p h =
    let e : length {A = ℕ} (replicate k 0) ≡ k = length-replicate {A = ℕ} k 0 in
    record {
      met = [];
      verdict = refl;
      split = refl;
      count = refl;
      used = omega arith;
      marks = marks-more (replicate k 0) [] 0 (omega arith) (marks-none k);
      enough = let m = mark-length (replicate k 0) 0 in omega arith;
    }

module _ {l : Layout} {img bits : List ℕ} {nodes last left n : ℕ} (k : Linked l img bits nodes last left n) where
  abbrev met : List ℕ
  met = k.passed.met

  next : rest l img last left ≡ n ∷ rest l img n (left - 1)
  next = rw (← k.link) (along-on (forward_of l img) left n k.more k.some)

  here : chain_from l img [] 0 (map_nodes l img) ≡ chain_from l img met last (n ∷ rest l img n (left - 1))
  here = k.passed.verdict ∙ ap (chain_from l img met last) next

  is_member : member bits n ≡ says (dec_mem n (0 ∷ met))
  is_member = member-says bits (0 ∷ met) k.passed.marks n

  pub out_of_range : total_of img ≤ n → chain_from l img [] 0 (map_nodes l img) ≡ fails 3 (node_place last)
  unfolding chain_from
  out_of_range h = here ∙ unless-false (says (dec_lt n (total_of img))) _ _ (says-no (dec_lt n (total_of img)) (λ q. omega arith))

  module _ (range : n < total_of img) where
    in-range : says (dec_lt n (total_of img)) ≡ true
    in-range = says-yes (dec_lt n (total_of img)) range

    pub repeated : member bits n ≡ true → chain_from l img [] 0 (map_nodes l img) ≡ fails 3 (node_place last)
    unfolding chain_from
    repeated h =
        let m = said (dec_mem n (0 ∷ met)) (sym is_member ∙ h) in
        let w = ⊎_elim (λ e. absurd (k.some e)) (λ w. w) (Memᴰ.cases_cons m) in
        here ∙ unless-true (says (dec_lt n (total_of img))) _ _ in-range
        ∙ unless-false (says (Dec.not (dec_mem n met))) _ _ (says-no (Dec.not (dec_mem n met)) (λ f. f w))

    module _ (fresh : member bits n ≡ false) where
      is-new : says (Dec.not (dec_mem n met)) ≡ true
      is-new = says-yes (Dec.not (dec_mem n met)) (λ m. unsaid (dec_mem n (0 ∷ met)) (sym is_member ∙ fresh) (Memᴰ.tail m))

      pub no-map-node : says (dec_map_node l img n) ≡ false → chain_from l img [] 0 (map_nodes l img) ≡ fails 3 (node_place n)
      unfolding chain_from
      no-map-node h =
          here ∙ unless-true (says (dec_lt n (total_of img))) _ _ in-range
          ∙ unless-true (says (Dec.not (dec_mem n met))) _ _ is-new ∙ unless-false (says (dec_map_node l img n)) _ _ h

      onward : says (dec_map_node l img n) ≡ true → chain_from l img [] 0 (map_nodes l img) ≡ chain_from l img (n ∷ met) n (rest l img n (left - 1))
      unfolding chain_from
      onward h =
          here ∙ unless-true (says (dec_lt n (total_of img))) _ _ in-range
          ∙ unless-true (says (Dec.not (dec_mem n met))) _ _ is-new ∙ unless-true (says (dec_map_node l img n)) _ _ h

      pub passed-more : says (dec_map_node l img n) ≡ true → Passed l img (with_bit bits n) (nodes + 1) n (left - 1)
      passed-more h =
          record {
            met = n ∷ met;
            verdict = onward h;
            split = k.passed.split ∙ ap (reverse_aux met) next;
            count = let c = k.passed.count in omega arith;
            used = let u = k.passed.used in let m = k.more in omega arith;
            marks = marks-same (with_bit bits n) (n ∷ 0 ∷ met) (0 ∷ n ∷ met) (λ m. swap n 0) (λ m. swap 0 n) (marks-more bits (0 ∷ met) n (let w = k.passed.enough in omega arith) k.passed.marks);
            enough = let w = k.passed.enough in let m = mark-length bits n in omega arith;
          }
        where
          swap : {m : ℕ} (x y : ℕ) → m ∈ x ∷ y ∷ met → m ∈ y ∷ x ∷ met
          swap x y m =
              ⊎_elim (λ e. Memᴰ.tail (Memᴰ.head e))
              (λ r. ⊎_elim (λ e. Memᴰ.head e) (λ z. Memᴰ.tail (Memᴰ.tail z)) (Memᴰ.cases_cons r))
              (Memᴰ.cases_cons m)

module _ {l : Layout} {img bits : List ℕ} {nodes last left : ℕ} (p : Passed l img bits nodes last left) (over : (left ≡ 0) ⊎ (forward_of l img last ≡ 0)) where
  none_left : rest l img last left ≡ []
  none_left = along-end (forward_of l img) left (forward_of l img last) over

  all-met : map_nodes l img ≡ reverse_aux p.met []
  all-met = p.split ∙ ap (reverse_aux p.met) none_left

  pub all-counted : nodes ≡ suc (length (map_nodes l img))
  all-counted = let e = ap length all-met ∙ length-reverse_aux p.met [] in let c = p.count in omega arith

  at-end : chain_from l img [] 0 (map_nodes l img) ≡ chain_from l img p.met last []
  at-end = p.verdict ∙ ap (chain_from l img p.met last) none_left

  -- the size of the map, as code counts it
  size : l.header_map + l.node_map * (nodes - 1) ≡ map_size l img
  size = let c = all-counted in let e : nodes - 1 ≡ length (map_nodes l img) = omega arith in rw e

  pub too_few : 8 * (l.header_map + l.node_map * (nodes - 1)) < total_of img → chain_from l img [] 0 (map_nodes l img) ≡ fails 3 (node_place last)
  unfolding chain_from
  too_few h =
      let c = size in
      at-end ∙ unless-false (says (dec_le (total_of img) (8 * map_size l img))) _ _ (says-no (dec_le (total_of img) (8 * map_size l img)) (λ q. omega arith))

  pub no-fault : total_of img ≤ 8 * (l.header_map + l.node_map * (nodes - 1)) → chain_from l img [] 0 (map_nodes l img) ≡ fine
  unfolding chain_from
  no-fault h =
      let c = size in
      at-end ∙ unless-true (says (dec_le (total_of img) (8 * map_size l img))) _ _ (says-yes (dec_le (total_of img) (8 * map_size l img)) (omega arith))

  pub all-marked : Marks bits (0 ∷ map_nodes l img)
  all-marked =
      rw all-met
      (marks-same bits (0 ∷ p.met) (0 ∷ reverse_aux p.met [])
      (λ m w. ⊎_elim (λ e. Memᴰ.head e) (λ z. Memᴰ.tail (back-met p.met [] z)) (Memᴰ.cases_cons w))
      (λ m w. ⊎_elim (λ e. Memᴰ.head e) (λ z. ⊎_elim (λ y. Memᴰ.tail y) (λ y. absurd (Memᴰ.not-nil y)) (back-cases p.met [] z)) (Memᴰ.cases_cons w))
      p.marks)

module _ {form : Form} {img bits : List ℕ} {node : ℕ} {f : Fault} where
  pub chain-faulty : f ≡ fault_at MapChain (node_place node) → chain_from (layout_of form) img [] 0 (map_nodes (layout_of form) img) ≡ fails 3 (node_place node) → ChainOf form img bits (Err f)
  chain-faulty p e = record { verdict = rw p (sym e); marks = tt; count = tt }
