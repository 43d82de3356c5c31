-- The sizes of records, how many a node holds, and that they lie in it.
-- Assumes nothing.
use mathlib.Core.Path.{◌≡◌, ap}
use mathlib.Core.Logic.{◌≢◌, ◌↔◌}
use Prim.Native.Nat.{ℕ, suc, ◌+◌, ◌*◌, ◌≤◌, ◌<◌}
use native.Mathlib.Nat.{suc-mul, mul-le-mul_right, mul-lt-mul_of_pos_right}
use native.Mathlib.Numerals.{add-one}
use native.Mathlib.Omega.{arith}
use native.Mathlib.Decide.{ℕ_discrete, dec_lt}
use Rattle.btree.proofs.Decisions.{cond_yes, cond_no}
use Rattle.frame.specs.declared.form.Form.{Form}
use Rattle.frame.specs.Form.{hfs, key_size}
use Rattle.frame.specs.Kinds.{leaf_kind, index_kind}
use Rattle.frame.proofs.Forms.{if-either, key-some}
use Rattle.extent_nodes.specs.Records.{data_size, record_size, Holds, start_in, start_at}

-- one product of a size has one factor
pub times-once : (i j s : ℕ) → 0 < s → i * s ≡ j * s → i ≡ j
times-once i j s pos e = go (dec_lt i j) (dec_lt j i)
  where
    go : Dec (i < j) → Dec (j < i) → i ≡ j
    go (yes l) q = let z : i * s < j * s = mul-lt-mul_of_pos_right l pos in absurd (omega arith)
    go (no p) (yes l) = let z : j * s < i * s = mul-lt-mul_of_pos_right l pos in absurd (omega arith)
    go (no p) (no q) = omega arith

module _ (form : Form) where
  data-some : 12 ≤ data_size form
  unfolding data_size
  data-some = if-either (λ (n : ℕ). 12 ≤ n) form.edition 12 64 (omega arith) (omega arith)

  module _ (kind : ℕ) where
    pub size-leaf : kind ≡ leaf_kind → record_size form kind ≡ key_size form + data_size form
    unfolding record_size
    size-leaf e = ap (λ (n : ℕ). key_size form + n) (cond_yes (ℕ_discrete kind leaf_kind) (data_size form) 4 e)

    pub size-index : kind ≢ leaf_kind → record_size form kind ≡ key_size form + 4
    unfolding record_size
    size-index e = ap (λ (n : ℕ). key_size form + n) (cond_no (ℕ_discrete kind leaf_kind) (data_size form) 4 e)

    -- a record has room for its key and a child's number
    pub size-some : key_size form + 4 ≤ record_size form kind
    size-some = go (ℕ_discrete kind leaf_kind)
      where
        go : Dec (kind ≡ leaf_kind) → key_size form + 4 ≤ record_size form kind
        go (yes e) = let s = size-leaf e in let d = data-some in omega arith
        go (no e) = let s = size-index e in omega arith

    pub size-pos : 0 < record_size form kind
    size-pos = let a = size-some in let b = key-some form in omega arith

    -- from one record to the next
    pub start-next : (n i : ℕ) → start_at form kind n (i + 1) ≡ start_at form kind n i + record_size form kind
    start-next n i = let e = suc-mul i (record_size form kind) in rw (add-one i) (omega arith)

    -- a record that a node has room for lies in it
    pub start-inside : (c i : ℕ) → Holds form kind c → i < c → start_in form kind i + record_size form kind ≤ form.size
    start-inside c i h l =
        let e : suc i * record_size form kind ≤ c * record_size form kind = mul-le-mul_right (record_size form kind) l in
        let q = suc-mul i (record_size form kind) in
        omega arith

    -- two records of a node that start at one byte are one
    pub start-once : (i j : ℕ) → start_in form kind i ≡ start_in form kind j → i ≡ j
    start-once i j e = times-once i j (record_size form kind) size-pos (omega arith)

-- "a leaf holds 1 to 22 and an index node 1 to 35": as many as fit in an HFS node
pub hfs-leaf-holds : (c : ℕ) → Holds hfs leaf_kind c ↔ (c ≤ 22)
unfolding key_size data_size record_size ℕ_discrete
hfs-leaf-holds c = (λ h. omega arith, λ h. omega arith)

pub hfs-index-holds : (c : ℕ) → Holds hfs index_kind c ↔ (c ≤ 35)
unfolding key_size record_size ℕ_discrete
hfs-index-holds c = (λ h. omega arith, λ h. omega arith)
