-- The order of keys is that of their numbers.
-- Assumes nothing.
use mathlib.Core.Path.{◌≡◌, refl, sym, ap, ◌∙◌}
use mathlib.Core.Logic.{◌↔◌}
use mathlib.Core.List.{List}
use Prim.Native.Nat.{ℕ, suc, ◌+◌, ◌*◌, ◌/◌, ◌%◌, ◌<◌, ◌≤◌}
use native.Mathlib.Nat.{mul-le-mul_right, suc-mul}
use native.Mathlib.Omega.{arith}
use lib.IntN.{ℤ, pos}
use lib.ListN.{get_or}
use Rattle.std.proofs.Common.{Ordering, Less, Equal, Greater, nat_cmp}
use Rattle.std.specs.Ordering.{ordering_then}
use Rattle.std.proofs.lemmas.Cmp.{ranked as cmp_cases}
use Rattle.image.proofs.Laws.{be16-copied, be32-copied}
use Rattle.image.proofs.Words.{Bytes}
use Rattle.image.specs.Bytes.{be16_at, be32_at}
use Rattle.btree.specs.Ranked.{ranked}
use Rattle.btree.proofs.Ranked.{ranked-below, ranked-above, ranked-same, ranked-zero, by_field}
use Rattle.frame.specs.declared.form.Form.{Form}
use Rattle.frame.proofs.Forms.{if-zero, if-not, if-either}
use Rattle.extent_keys.specs.declared.key.Key.{Key}
use Rattle.extent_keys.specs.Key.{hfs_key_at, plus_key_at, key_at, number, compared, rank, packed, IsShort, unpacked}

-- the fields of a key in an image, and of one that is asked for
pub record InRange (k : Key) : Type 0 where
  pub fork : k.fork < 256
  pub start : k.start < 4294967296

-- keys as numbers with room for w start blocks
module _ (w : ℕ) where
  abbrev spread : Key → ℕ
  spread k = (k.file * 256 + k.fork) * w + k.start

  -- the higher part decides
  high-less : (h k l m : ℕ) → h < k → l < w → h * w + l < k * w + m
  high-less h k l m a b = let p : suc h * w ≤ k * w = mul-le-mul_right w a in let e = suc-mul h w in omega arith

  spread-order : (a b : Key) → a.fork < 256 → b.fork < 256 → a.start < w → b.start < w → compared a b ≡ ranked (spread a) (spread b) (pos 0)
  unfolding compared
  spread-order a b fa fb sa sb =
      by_field a.file b.file _ _ _ _ (λ h. high-less _ _ _ _ (omega arith) sa) (λ h. high-less _ _ _ _ (omega arith) sb)
      (λ f. by_field a.fork b.fork _ _ _ _ (λ h. high-less _ _ _ _ (omega arith) sa) (λ h. high-less _ _ _ _ (omega arith) sb)
      (λ g. let e : a.file * 256 + a.fork ≡ b.file * 256 + b.fork = omega arith in
      rw e (by_field a.start b.start _ _ _ _ (λ h. omega arith) (λ h. omega arith)
      (λ s. sym (ranked-same _ _ _ (omega arith))))))

pub rank-order : (a b : Key) → InRange a → InRange b → compared a b ≡ ranked (rank a) (rank b) (pos 0)
unfolding rank
rank-order a b ra rb = spread-order 4294967296 a b ra.fork rb.fork ra.start rb.start

packed-spread : (k : Key) → packed k ≡ spread 65536 k
unfolding packed
packed-spread k = omega arith

-- "numeric order is key order"
pub packed-order : (a b : Key) → InRange a → InRange b → IsShort a → IsShort b → compared a b ≡ ranked (packed a) (packed b) (pos 0)
packed-order a b ra rb sa sb = rw (packed-spread a, packed-spread b) (spread-order 65536 a b ra.fork rb.fork sa sb)

-- an answer by the fields is one by either number
pub by-numbers : (a b : Key) (z : ℤ) → InRange a → InRange b → compared a b ≡ z
    → (z ≡ compared a b) × ((z ≡ ranked (rank a) (rank b) (pos 0)) × (IsShort a → IsShort b → z ≡ ranked (packed a) (packed b) (pos 0)))
by-numbers a b z ra rb e = (sym e, (sym e ∙ rank-order a b ra rb, λ sa sb. sym e ∙ packed-order a b ra rb sa sb))

-- the number of an answer
number-cmp : (a b : ℕ) → number (nat_cmp a b) ≡ ranked a b (pos 0)
number-cmp a b = go (nat_cmp a b) refl
  where
    go : (r : Ordering) → r ≡ nat_cmp a b → number r ≡ ranked a b (pos 0)
    go Less e = let h = cmp_cases a b Less e in sym (ranked-below a b (pos 0) h)
    go Equal e = let h = cmp_cases a b Equal e in sym (ranked-same a b (pos 0) h)
    go Greater e = let h = cmp_cases a b Greater e in sym (ranked-above a b (pos 0) h)

number-then : (a b : ℕ) (o : Ordering) → number (ordering_then (nat_cmp a b) o) ≡ ranked a b (number o)
number-then a b o = go (nat_cmp a b) refl
  where
    go : (r : Ordering) → r ≡ nat_cmp a b → number (ordering_then r o) ≡ ranked a b (number o)
    go Less e = let h = cmp_cases a b Less e in sym (ranked-below a b (number o) h)
    go Equal e = let h = cmp_cases a b Equal e in sym (ranked-same a b (number o) h)
    go Greater e = let h = cmp_cases a b Greater e in sym (ranked-above a b (number o) h)

-- the first field in which the keys differ decides
pub by-fields : (a b : Key) (r : Ordering) → r ≡ ordering_then (nat_cmp a.file b.file) (ordering_then (nat_cmp a.fork b.fork) (nat_cmp a.start b.start))
    → compared a b ≡ number r
unfolding compared
by-fields a b r e =
    sym
    (ap number e ∙ number-then _ _ _ ∙ ap (ranked a.file b.file)
    (number-then _ _ _ ∙ ap (ranked a.fork b.fork) (number-cmp _ _)))

-- keys compare as 0 exactly when their numbers are equal
pub rank_same : (a b : Key) → InRange a → InRange b → (compared a b ≡ pos 0) ↔ (rank a ≡ rank b)
rank_same a b ra rb = (λ e. (ranked-zero _ _ _ (sym (rank-order a b ra rb) ∙ e)).0, λ e. rank-order a b ra rb ∙ ranked-same _ _ _ e)

module _ (form : Form) (img : List ℕ) (at : ℕ) where
  pub key-hfs : form.edition ≡ 0 → key_at form img at ≡ hfs_key_at img at
  unfolding key_at
  key-hfs e = if-zero form.edition _ _ e

  pub key-plus : (form.edition ≡ 0 → ⊥) → key_at form img at ≡ plus_key_at img at
  unfolding key_at
  key-plus h = if-not form.edition _ _ h

-- a key stays the same where its bytes are copied
module _ (img : List ℕ) (at : ℕ) (bytes : List ℕ) (same : (k : ℕ) → k < 12 → get_or bytes k 0 ≡ get_or img (at + k) 0) where
  hfs-copied : hfs_key_at bytes 0 ≡ hfs_key_at img at
  hfs-copied = rw (be32-copied bytes img at 12 same 2 (omega arith), same 1 (omega arith), be16-copied bytes img at 12 same 6 (omega arith))

  plus-copied : plus_key_at bytes 0 ≡ plus_key_at img at
  plus-copied = rw (be32-copied bytes img at 12 same 4 (omega arith), same 2 (omega arith), be32-copied bytes img at 12 same 8 (omega arith))

  pub key-copied : (form : Form) → key_at form bytes 0 ≡ key_at form img at
  unfolding key_at
  key-copied form = rw (hfs-copied, plus-copied)

module _ (form : Form) (img : List ℕ) (b : Bytes img) (at : ℕ) where
  hfs-range : InRange (hfs_key_at img at)
  unfolding be16_at
  hfs-range = record { fork = b (at + 1); start = let x = b (at + 6) in let y = b (at + 6 + 1) in omega arith }

  plus-range : InRange (plus_key_at img at)
  unfolding be32_at
  plus-range = record { fork = b (at + 2); start = let x = b (at + 8) in let y = b (at + 8 + 1) in let z = b (at + 8 + 2) in let w = b (at + 8 + 3) in omega arith }

  pub key-range : InRange (key_at form img at)
  unfolding key_at
  key-range = if-either InRange form.edition _ _ hfs-range plus-range

pub rank-fork : (a b : Key) → InRange a → InRange b → rank a ≡ rank b → a.fork ≡ b.fork
unfolding rank
rank-fork a b ra rb e = omega arith

-- a packed number stands for one key, and every HFS key has one
pub unpacked-range : (number : ℕ) → InRange (unpacked number)
unpacked-range number = record { fork = omega arith; start = omega arith }

pub packed-unpacked : (number : ℕ) → packed (unpacked number) ≡ number
unfolding packed
packed-unpacked number = omega arith

pub unpacked-packed : (k : Key) → InRange k → IsShort k → unpacked (packed k) ≡ k
unfolding packed
unpacked-packed k r b = rw (file, fork, start)
  where
    file : packed k / 16777216 ≡ k.file
    file = let a = r.fork in omega arith

    fork : packed k / 65536 % 256 ≡ k.fork
    fork = let a = r.fork in omega arith

    start : packed k % 65536 ≡ k.start
    start = omega arith

-- the start block of an HFS key has two bytes, so a record with the asked key shows that its own has
pub short-start : (form : Form) (img : List ℕ) → Bytes img → (k : Key) → InRange k → (at : ℕ) → form.edition ≡ 0 → compared (key_at form img at) k ≡ pos 0 → IsShort k
unfolding be16_at rank
short-start form img b k r at e h =
    let q = rw (key-hfs form img at e) at ((rank_same (key_at form img at) k (key-range form img b at) r).0 h) in
    let f = b (at + 1) in
    let x = b (at + 6) in
    let y = b (at + 6 + 1) in
    let g = r.fork in
    let s = r.start in
    omega arith
