-- Reading a part of a list: what stands from a on in one list stands from b on in another.
-- Assumes nothing.
use mathlib.Core.Path.{◌≡◌, refl, sym, ap, ◌∙◌}
use mathlib.Core.List.Memᴰ
use mathlib.Core.List.{List, [], ◌∷◌, ◌++◌, append_assoc}
use Prim.Native.Nat.{ℕ, zero, suc, ◌+◌, ◌*◌, ◌≤◌, ◌<◌}
use native.Mathlib.Nat.{suc-mul}
use native.Mathlib.Omega.{arith}
use lib.ListN.{length, get_or, take, drop, length-append, get_or-append}
use lib.Seq.{get_or-append-add, ext_get_or}
use Rattle.image.specs.Bytes.{be16_at, be32_at}
use Rattle.btree.specs.Lists.{◌∈◌, span, gather}
use Rattle.btree.proofs.Lists.{part_length, part_at}
use Rattle.laid.specs.Laid.{joined}

pub record Same (xs : List ℕ) (a : ℕ) (ys : List ℕ) (b n : ℕ) : Type 0 where
  pub at : (o : ℕ) → o < n → get_or xs (a + o) 0 ≡ get_or ys (b + o) 0

pub skip : {A : Type 0} (d : A) (xs ys : List A) (n o : ℕ) → length xs ≡ n → get_or (xs ++ ys) (n + o) d ≡ get_or ys o d
skip d xs ys n o e = rw (← e) (get_or-append-add xs ys o d)

pub ones-at : {A : Type 0} (d : A) (f : ℕ → A) (j c t : ℕ) → t < c → get_or (span j c (λ k. f k ∷ [])) t d ≡ f (j + t)
ones-at d f j zero t l = absurd (omega arith)
ones-at d f j (suc c) zero l = ap f (let z : j ≡ j + 0 = omega arith in z)
ones-at d f j (suc c) (suc t) l = ones-at d f (suc j) c t (omega arith) ∙ ap f (let z : suc j + t ≡ j + suc t = omega arith in z)

module _ {xs ys : List ℕ} {a b n : ℕ} (s : Same xs a ys b n) where
  pub same-16 : (c : ℕ) → c + 2 ≤ n → be16_at xs (a + c) ≡ be16_at ys (b + c)
  unfolding be16_at
  same-16 c l =
      let e : a + c + 1 ≡ a + (c + 1) = omega arith in
      let f : b + c + 1 ≡ b + (c + 1) = omega arith in
      rw (e, f, s.at c (omega arith), s.at (c + 1) (omega arith))

  pub same-32 : (c : ℕ) → c + 4 ≤ n → be32_at xs (a + c) ≡ be32_at ys (b + c)
  unfolding be32_at
  same-32 c l =
      let e : a + c + 1 ≡ a + (c + 1) = omega arith in
      let f : b + c + 1 ≡ b + (c + 1) = omega arith in
      let e₂ : a + c + 2 ≡ a + (c + 2) = omega arith in
      let f₂ : b + c + 2 ≡ b + (c + 2) = omega arith in
      let e₃ : a + c + 3 ≡ a + (c + 3) = omega arith in
      let f₃ : b + c + 3 ≡ b + (c + 3) = omega arith in
      rw (e, f, e₂, f₂, e₃, f₃, s.at c (omega arith), s.at (c + 1) (omega arith), s.at (c + 2) (omega arith), s.at (c + 3) (omega arith))

  -- a part of it
  pub same-part : (c k : ℕ) → c + k ≤ n → Same xs (a + c) ys (b + c) k
  same-part c k l = record {
    at = λ o u.
        let e : a + c + o ≡ a + (c + o) = omega arith in
        let f : b + c + o ≡ b + (c + o) = omega arith in
        rw (e, f) (s.at (c + o) (omega arith));
  }

  pub same_then : {zs : List ℕ} {c : ℕ} → Same ys b zs c n → Same xs a zs c n
  same_then t = record { at = λ o l. s.at o l ∙ t.at o l }

  pub same-take : a + n ≤ length xs → b + n ≤ length ys → take n (drop a xs) ≡ take n (drop b ys)
  same-take l m =
      ext_get_or 0 _ _ (part_length xs a n l ∙ sym (part_length ys b n m)) (λ i u.
      let v = rw (part_length xs a n l) at u in
      part_at xs a n i v ∙ s.at i v ∙ sym (part_at ys b n i v))

pub same-skip : (xs ys : List ℕ) (n a k : ℕ) → length xs ≡ n → Same (xs ++ ys) (n + a) ys a k
same-skip xs ys n a k e = record { at = λ o l. let z : n + a + o ≡ n + (a + o) = omega arith in rw z (skip 0 xs ys n (a + o) e) }

pub same-front : (xs ys : List ℕ) (a k : ℕ) → a + k ≤ length xs → Same (xs ++ ys) a xs a k
same-front xs ys a k e = record { at = λ o l. get_or-append xs ys 0 (a + o) (omega arith) }

pub same-cut : (xs : List ℕ) (n a : ℕ) → Same (take n (drop a xs)) 0 xs a n
same-cut xs n a = record { at = λ o l. let z : 0 + o ≡ o = omega arith in rw z (part_at xs a n o l) }

-- lists of one width, one after another
pub span-length : {A : Type 0} (w i n : ℕ) (f : ℕ → List A) → ((j : ℕ) → i ≤ j → j < i + n → length (f j) ≡ w) → length (span i n f) ≡ n * w
span-length w i zero f h = omega arith
span-length w i (suc n) f h =
    length-append (f i) (span (suc i) n f)
    ∙ rw (h i (omega arith) (omega arith), span-length w (suc i) n f (λ j l u. h j (omega arith) (omega arith))) (let e = suc-mul n w in omega arith)

pub same_span : (w i n : ℕ) (f : ℕ → List ℕ) (rest : List ℕ) → ((j : ℕ) → i ≤ j → j < i + n → length (f j) ≡ w) → (j : ℕ) → j < n → Same (span i n f ++ rest) (j * w) (f (i + j)) 0 w
same_span w i zero f rest h j l = absurd (omega arith)
same_span w i (suc n) f rest h zero l = record {
  at = λ o u.
      let e : 0 * w + o ≡ o = omega arith in
      let z : i + 0 ≡ i = omega arith in
      let y : 0 + o ≡ o = omega arith in
      rw (append_assoc (f i) (span (suc i) n f) rest, e, z, y) (get_or-append (f i) (span (suc i) n f ++ rest) 0 o (rw (h i (omega arith) (omega arith)) u));
}
same_span w i (suc n) f rest h (suc j) l = record {
  at = λ o u.
      let e : suc j * w + o ≡ w + (j * w + o) = let x = suc-mul j w in omega arith in
      let z : i + suc j ≡ suc i + j = omega arith in
      rw (append_assoc (f i) (span (suc i) n f) rest, e, z)
      (skip 0 (f i) (span (suc i) n f ++ rest) w (j * w + o) (h i (omega arith) (omega arith))
      ∙ (same_span w (suc i) n f rest (λ x a b. h x (omega arith) (omega arith)) j (omega arith)).at o u);
}

-- nodes of one width
pub same-joined : (ns : List (List ℕ)) → ((x : List ℕ) → x ∈ ns → length x ≡ 512) → (n : ℕ) → n < length ns → Same (joined ns) (n * 512) (get_or ns n []) 0 512
same-joined [] h n l = absurd (omega arith)
same-joined (x ∷ xs) h zero l = record {
  at = λ o u.
      let e : 0 * 512 + o ≡ o = omega arith in
      rw e (get_or-append x (joined xs) 0 o (rw (h x (Memᴰ.head refl)) u));
}
same-joined (x ∷ xs) h (suc n) l = record {
  at = λ o u.
      let e : suc n * 512 + o ≡ 512 + (n * 512 + o) = omega arith in
      rw e (skip 0 x (joined xs) 512 (n * 512 + o) (h x (Memᴰ.head refl)) ∙ (same-joined xs (λ y w. h y (Memᴰ.tail w)) n (omega arith)).at o u);
}

-- lists of one width, gathered
pub gather-length : {A : Type 0} (w : ℕ) (f : A → List ℕ) (xs : List A) → ((x : A) → x ∈ xs → length (f x) ≡ w) → length (gather f xs) ≡ length xs * w
gather-length w f [] h = omega arith
gather-length w f (x ∷ xs) h =
    length-append (f x) (gather f xs)
    ∙ rw (h x (Memᴰ.head refl), gather-length w f xs (λ y m. h y (Memᴰ.tail m))) (let e = suc-mul (length xs) w in omega arith)
