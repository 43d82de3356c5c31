-- The forms that are listed, and the sizes that follow from one.
-- Assumes nothing.
use mathlib.Core.Path.{◌≡◌, refl, ap}
use mathlib.Core.Logic.{inl, inr, ⊎_elim}
use mathlib.Core.List.Memᴰ
use mathlib.Core.List.{List, [], ◌∷◌}
use Prim.Native.Nat.{ℕ, zero, suc, ◌+◌, ◌-◌, ◌*◌, ◌/◌, ◌≤◌, ◌<◌}
use native.Mathlib.Nat.{div-le_of_le-mul, div-mul-le_self, suc-mul, mul-le-mul, mul-le-mul_right}
use native.Mathlib.Omega.{arith}
use types.Run.{OneOf}
use Rattle.btree.specs.Lists.{◌∈◌}
use Rattle.btree.specs.Decide.{if_zero}
use Rattle.btree.specs.Layout.{Fits}
use Rattle.frame.specs.declared.form.Form.{Form}
use Rattle.frame.specs.Form.{hfs, plus_sizes, Listed, key_size, node_map_of, layout_of, Fair}

-- the one proof that names the sizes of HFS
pub hfs-layout : layout_of hfs ≡ record { node_size = 512; header_map = 256; node_map = 494; max_nodes = 65536; max_depth = 8 }
unfolding node_map_of
hfs-layout = refl

pub hfs-listed : Listed hfs
hfs-listed = inl (refl, refl)

-- the first of two where a number is 0, and else the second
pub if-zero : {A : Type 0} (n : ℕ) (a b : A) → n ≡ 0 → if_zero n a b ≡ a
if-zero n a b e = rw e

pub if-not : {A : Type 0} (n : ℕ) (a b : A) → (n ≡ 0 → ⊥) → if_zero n a b ≡ b
if-not zero a b h = absurd (h refl)
if-not (suc n) a b h = refl

-- what holds of both holds of either
pub if-either : {A : Type 0} (P : A → Type 0) (n : ℕ) (a b : A) → P a → P b → P (if_zero n a b)
if-either P zero a b p q = p
if-either P (suc n) a b p q = q

-- the keys of a match's arm, as a list
pub members : (k : ℕ) (ks : List ℕ) (x : ℕ) → OneOf (k ∷ ks) x → x ∈ k ∷ ks
members k [] x h = Memᴰ.head h
members k (j ∷ js) x h = ⊎_elim (λ e. Memᴰ.head e) (λ r. Memᴰ.tail (members j js x r)) h

pub keyed : (k : ℕ) (ks : List ℕ) (x : ℕ) → x ∈ k ∷ ks → OneOf (k ∷ ks) x
keyed k [] x m = ⊎_elim (λ e. e) (λ r. absurd (Memᴰ.not-nil r)) (Memᴰ.cases_cons m)
keyed k (j ∷ js) x m = ⊎_elim (λ e. inl e) (λ r. inr (keyed j js x r)) (Memᴰ.cases_cons m)

-- every size of HFS Plus is in range
plus-range : (n : ℕ) → n ∈ plus_sizes → (512 ≤ n) × (n ≤ 32768)
plus-range n m = among (keyed 512 _ n m)
  where
    among : OneOf plus_sizes n → (512 ≤ n) × (n ≤ 32768)
    among (inl e) = (omega arith, omega arith)
    among (inr (inl e)) = (omega arith, omega arith)
    among (inr (inr (inl e))) = (omega arith, omega arith)
    among (inr (inr (inr (inl e)))) = (omega arith, omega arith)
    among (inr (inr (inr (inr (inl e))))) = (omega arith, omega arith)
    among (inr (inr (inr (inr (inr (inl e)))))) = (omega arith, omega arith)
    among (inr (inr (inr (inr (inr (inr e)))))) = (omega arith, omega arith)

pub fair : (form : Form) → Listed form → Fair form
fair form = ⊎_elim (λ (e, s). record { least = omega arith; most = omega arith }) (λ (e, m). let r = plus-range form.size m in record { least = r.0; most = r.1 })

module _ (form : Form) where
  pub node-map-hfs : form.edition ≡ 0 → node_map_of form ≡ form.size - 18
  unfolding node_map_of
  node-map-hfs e = rw e

  pub node-map-plus : (form.edition ≡ 0 → ⊥) → node_map_of form ≡ form.size - 20
  unfolding node_map_of
  node-map-plus h = ap (λ (n : ℕ). form.size - n) (if-not form.edition 18 20 h)

  -- how many bytes a key has, at least and in a catalog
  pub key-size-catalog : (form.tree ≡ 0 → ⊥) → key_size form ≡ 38
  unfolding key_size
  key-size-catalog h = if-not form.tree _ 38 h

  pub key-some : 8 ≤ key_size form
  unfolding key_size
  key-some = if-either (λ (n : ℕ). 8 ≤ n) form.tree _ 38 (if-either (λ (n : ℕ). 8 ≤ n) form.edition 8 12 (omega arith) (omega arith)) (omega arith)

  -- a node of so many lies in an image that has them all
  pub node-inside : (n total len : ℕ) → n < total → total * form.size ≤ len → n * form.size + form.size ≤ len
  node-inside n total len h l = let p : suc n * form.size ≤ total * form.size = mul-le-mul_right form.size h in let e = suc-mul n form.size in omega arith

  -- the nodes of an image that is not too long, and that it has them
  pub nodes-few : (len : ℕ) → len ≤ 65536 * form.size → len / form.size ≤ 65536
  nodes-few len h = div-le_of_le-mul form.size (let e : len ≤ form.size * 65536 = omega arith in e)

  pub nodes-whole : (len : ℕ) → len / form.size * form.size ≤ len
  nodes-whole len = div-mul-le_self len form.size

  -- so a whole node of an image lies in it
  pub whole-node : (len n : ℕ) → n < len / form.size → n * form.size + form.size ≤ len
  whole-node len n h = node-inside n (len / form.size) len h (nodes-whole len)

  node-map-room : node_map_of form ≤ form.size - 18
  unfolding node_map_of
  node-map-room = go form.edition
    where
      go : (n : ℕ) → form.size - if_zero n 18 20 ≤ form.size - 18
      go zero = omega arith
      go (suc n) = omega arith

  module _ (f : Fair form) where
    pub fits : Fits (layout_of form)
    fits = record { header = omega (arith, f.least); node = omega (arith, f.least, node-map-room) }

    -- where a node starts
    pub start_small : (n : ℕ) → n < 4294967296 → n * form.size < 140737488355328
    start_small n h = let m = starts (omega arith) f.most in omega arith
      where
        starts : n ≤ 4294967295 → form.size ≤ 32768 → n * form.size ≤ 4294967295 * 32768
        starts = mul-le-mul

    -- the bytes of so many map nodes' records
    pub maps-small : (n : ℕ) → n ≤ 4294967296 → node_map_of form * n ≤ 140737488355328
    maps-small n h = mul-le-mul (let r = node-map-room in let m : node_map_of form ≤ 32768 = omega (arith, f.most) in m) h
