-- The descent, node after node: what is left of the path from here, stored after what is there, is the whole path, and the keys compared so far and
-- in what is left are all that are compared; and so where it ends.
-- Assumes nothing.
use mathlib.Core.Path.{◌≡◌, refl, sym, ap, ◌∙◌}
use mathlib.Core.Logic.{◌≢◌}
use mathlib.Core.Option.{Option, none, some}
use mathlib.Core.List.{List, [], ◌∷◌, ◌++◌, append_assoc}
use Prim.Native.Nat.{ℕ, zero, suc, ◌+◌, ◌-◌, ◌*◌, ◌≤◌, ◌<◌}
use native.Mathlib.Omega.{arith}
use native.Mathlib.Numerals.{add-one}
use lib.ListN.{length, set, replicate, length-append, length-set}
use lib.Seq.{set-append_seam}
use Rattle.btree.specs.declared.Halved.{Halved}
use Rattle.btree.specs.Lists.{padded, from_option}
use Rattle.btree.specs.Tree.{View, OnLevel, SoundTree}
use Rattle.btree.specs.Halving.{before}
use Rattle.btree.specs.Search.{highest_of, path_from, path_at, in_leaf, answer_from, answer_at, floor_from, floor_at, halved_in, with_key, compared_in}
use Rattle.btree.proofs.Leaves.{on-root, on-child}
use Rattle.btree.proofs.Paths.{highest-some, path-length}
use Rattle.btree.proofs.Halving.{halved-pointer, halved-leaf}
use Rattle.btree.proofs.Left.{one_more}
use Rattle.search.specs.Descent.{reached_at, Reaches}
use Rattle.search.proofs.Narrowing.{before-none, before-some, ends-inside}

-- numbers stored from place i on
abbrev pub stored : List ℕ → ℕ → List ℕ → List ℕ
stored nodes i [] = nodes
stored nodes i (x ∷ xs) = stored (set nodes i x) (suc i) xs

padded-none : (m : ℕ) → padded m [] ≡ replicate m 0
padded-none zero = refl
padded-none (suc m) = ap {B = List ℕ} (λ r. 0 ∷ r) (padded-none m)

stored-after : (ys xs : List ℕ) (m : ℕ) → length xs ≤ m → stored (ys ++ replicate m 0) (length ys) xs ≡ ys ++ padded m xs
stored-after ys [] m h = ap (λ (l : List ℕ). ys ++ l) (sym (padded-none m))
stored-after ys (x ∷ xs) zero h = absurd (omega arith)
stored-after ys (x ∷ xs) (suc m) h =
    let e : length (ys ++ x ∷ []) ≡ suc (length ys) = length-append ys (x ∷ []) ∙ omega arith in
    ap (λ (l : List ℕ). stored l (suc (length ys)) xs) (set-append_seam ys 0 (replicate m 0) x ∙ sym (append_assoc ys (x ∷ []) (replicate m 0)))
    ∙ ap (λ (k : ℕ). stored ((ys ++ x ∷ []) ++ replicate m 0) k xs) (sym e)
    ∙ stored-after (ys ++ x ∷ []) xs m (omega arith)
    ∙ append_assoc ys (x ∷ []) (padded m xs)

module _ (v : View) (k : ℕ) where
  open v use {count, child}

  -- the path from a node with h levels below it, but for that node
  abbrev path_tail : ℕ → ℕ → List ℕ
  path_tail zero n = []
  path_tail (suc h) n = from_option (highest_of v n k (count n)) (λ i. path_from v h k (child n i))

  path-head : (h n : ℕ) → path_from v h k n ≡ n ∷ path_tail h n
  path-head zero n = refl
  path-head (suc h) n = refl

  -- the nodes stored, the last of which is `node`, and the keys compared in those before it
  pub record Stored (depth : ℕ) (nodes : List ℕ) (node len compared : ℕ) : Type 0 where
    pub some : 0 < len
    pub few : len ≤ depth
    pub deep : depth ≡ v.depth
    pub shallow : depth ≤ 8
    pub long : length nodes ≡ 8
    pub on : OnLevel v (len - 1) node
    pub path : stored nodes len (path_tail (depth - len) node) ≡ padded 8 (path_at v depth k)
    pub size : len + length (path_tail (depth - len) node) ≡ length (path_at v depth k)
    pub answer : answer_from v (depth - len) k node ≡ answer_at v depth k
    pub floor : floor_from v (depth - len) k node ≡ floor_at v depth k
    pub tally : compared + compared_in v k (node ∷ path_tail (depth - len) node) ≡ compared_in v k (path_at v depth k)
    pub low : compared ≤ 16 * (len - 1)

  pub stored-none : v.depth ≡ 0 → Reaches v k (reached_at (replicate 8 0) 0 0 0 0)
  stored-none e = record { is_path = rw e; is_compared = rw e; inside = omega arith; is_answer = rw e; is_floor = rw e }

  pub stored-root : (depth : ℕ) → depth ≢ 0 → depth ≡ v.depth → depth ≤ 8 → Stored depth (set (replicate 8 0) 0 v.root) v.root 1 0
  stored-root zero z f h = absurd (z refl)
  stored-root (suc d) z f h =
      let e : suc d - 1 ≡ d = omega arith in
      let p = path-head d v.root in
      let l = path-length v d k v.root in
      record {
        some = omega arith;
        few = omega arith;
        deep = f;
        shallow = h;
        long = length-set (replicate 8 0) 0 v.root;
        on = on-root v (omega arith);
        path = rw (e, p) (stored-after [] (v.root ∷ path_tail d v.root) 8 (let q = ap length p in omega arith));
        size = rw (e, p) (omega arith);
        answer = rw e;
        floor = rw e;
        tally = rw (e, p) (omega arith);
        low = omega arith;
      }

  module _ (s : SoundTree v) (depth : ℕ) (nodes : List ℕ) (node len compared : ℕ) (t : Stored depth nodes node len compared) (r : Halved) (is : r ≡ halved_in v k node) where
    -- the pointer that halving comes to is the one with the highest key not above k
    pointer : (o : Option ℕ) → before r.end ≡ o → highest_of v node k (count node) ≡ o
    pointer o e = halved-pointer v s k (len - 1) node t.on ∙ ap (λ (x : Halved). before x.end) (sym is) ∙ e

    same_count : r.compared ≡ (halved_in v k node).compared
    same_count = ap (λ (x : Halved). x.compared) is

    -- on to the child of the record before the end
    pub stored-child : len < depth → r.end ≢ 0 → r.compared ≤ 16 → Stored depth (set nodes len (child node (r.end - 1))) (child node (r.end - 1)) (len + 1) (compared + r.compared)
    stored-child l z few =
        let i = r.end - 1 in
        let e = pointer (some i) (before-some r.end z) in
        let h = depth - (len + 1) in
        let q = one_more depth len l in
        let w : path_tail (depth - len) node ≡ child node i ∷ path_tail h (child node i) = rw (q, e) (path-head h (child node i)) in
        let u : suc (len - 1) ≡ len + 1 - 1 = let p = t.some in omega arith in
        record {
          some = omega arith;
          few = omega arith;
          deep = t.deep;
          shallow = t.shallow;
          long = length-set nodes len (child node i) ∙ t.long;
          on = rw (← u) (on-child v (len - 1) node i t.on (highest-some v node k i e).inside (let p = t.some in let d = t.deep in omega arith));
          path = ap (λ (j : ℕ). stored (set nodes len (child node i)) j (path_tail h (child node i))) (add-one len) ∙ sym (ap (stored nodes len) w) ∙ t.path;
          size = let a = ap length w in let b = t.size in omega arith;
          answer = sym (rw (q, e)) ∙ t.answer;
          floor = sym (rw (q, e)) ∙ t.floor;
          tally = let a = ap (compared_in v k) w in let b = t.tally in let c = same_count in omega arith;
          low = let a = t.low in let p = t.some in omega arith;
        }

    -- nothing of the path is left, and the record before the end is the one asked for
    finish : (end : ℕ) → path_tail (depth - len) node ≡ [] → end ≤ count node → in_leaf v node (with_key v k node (before end)) ≡ answer_at v depth k
        → in_leaf v node (before end) ≡ floor_at v depth k → Reaches v k (reached_at nodes len (compared + r.compared) node end)
    finish end w u a f =
        let p : nodes ≡ padded 8 (path_at v depth k) = sym (ap (stored nodes len) w) ∙ t.path in
        let n : len ≡ length (path_at v depth k) = let a = ap length w in let b = t.size in omega arith in
        let c : compared + r.compared ≡ compared_in v k (path_at v depth k) = let a = ap (compared_in v k) w in let b = t.tally in let d = same_count in omega arith in
        record {
          is_path = rw (p, n, t.deep);
          is_compared = c ∙ ap (λ (d : ℕ). compared_in v k (path_at v d k)) t.deep;
          inside = u;
          is_answer = a ∙ ap (λ (d : ℕ). answer_at v d k) t.deep;
          is_floor = f ∙ ap (λ (d : ℕ). floor_at v d k) t.deep;
        }

    -- no pointer key is low enough
    pub stops-path : len < depth → r.end ≡ 0 → Reaches v k (reached_at nodes len (compared + r.compared) node 0)
    stops-path l z =
        let e = pointer none (before-none r.end z) in
        let q = one_more depth len l in
        finish 0 (rw (q, e)) (omega arith) (sym (rw (q, e)) ∙ t.answer) (sym (rw (q, e)) ∙ t.floor)

    -- the leaf is reached
    pub ends-path : depth ≤ len → Reaches v k (reached_at nodes len (compared + r.compared) node r.end)
    ends-path l =
        let q : depth - len ≡ 0 = let f = t.few in omega arith in
        let a : answer_from v 0 k node ≡ answer_at v depth k = sym (rw q) ∙ t.answer in
        let f : floor_from v 0 k node ≡ floor_at v depth k = sym (rw q) ∙ t.floor in
        finish r.end (rw q) (ends-inside v k node r is)
        (ap (λ (h : Halved). in_leaf v node (with_key v k node (before h.end))) is ∙ ap (in_leaf v node) (halved-leaf v s k (len - 1) node t.on) ∙ a)
        (sym (ap (in_leaf v node) (pointer (before r.end) refl)) ∙ f)
