-- What a part comes to where it is written into zeros, byte by byte.
-- Assumes nothing.
use mathlib.Core.Path.{◌≡◌, refl, sym, ap, ◌∙◌}
use mathlib.Core.List.{List, [], ◌∷◌}
use Prim.Native.Nat.{ℕ, zero, suc, ◌+◌, ◌-◌, ◌≤◌, ◌<◌, min}
use native.Mathlib.Omega.{arith}
use native.Mathlib.Decide.{dec_lt}
use native.Mathlib.Nat.{le_of_suc-le-suc, not-suc-le-zero}
use lib.ListN.{length, get_or, take, drop, set, replicate, length-drop}
use lib.Seq.{ext_get_or, get_or-take, get_or-set_same, get_or-set_other}
use borrow.Author.Count.{below_more}
use Rattle.std.proofs.lemmas.List.{take_all, drop_min}
use Rattle.btree.specs.Lists.{padded}

pub zeros-padded : (n : ℕ) → replicate n 0 ≡ padded n []
zeros-padded zero = refl
zeros-padded (suc n) = ap (λ (l : List ℕ). 0 ∷ l) (zeros-padded n)

padded-length : (n : ℕ) (xs : List ℕ) → length (padded n xs) ≡ n
padded-length zero xs = refl
padded-length (suc n) [] = ap suc (padded-length n [])
padded-length (suc n) (x ∷ xs) = ap suc (padded-length n xs)

padded-at : (n : ℕ) (xs : List ℕ) (j : ℕ) → j < n → get_or (padded n xs) j 0 ≡ get_or xs j 0
padded-at zero xs j h = absurd (not-suc-le-zero h)
padded-at (suc n) [] zero h = refl
padded-at (suc n) [] (suc j) h = padded-at n [] j (le_of_suc-le-suc h)
padded-at (suc n) (x ∷ xs) zero h = refl
padded-at (suc n) (x ∷ xs) (suc j) h = padded-at n xs j (le_of_suc-le-suc h)

-- past the end of zeros all is 0
pub zeros : (n j : ℕ) → get_or {A = ℕ} (replicate n 0) j 0 ≡ 0
zeros zero j = refl
zeros (suc n) zero = refl
zeros (suc n) (suc j) = zeros n j

-- past what is taken all is 0
take_past : (n : ℕ) (xs : List ℕ) (j : ℕ) → n ≤ j → get_or (take n xs) j 0 ≡ 0
take_past zero xs j h = refl
take_past (suc n) [] j h = refl
take_past (suc n) (x ∷ xs) zero h = absurd (omega arith)
take_past (suc n) (x ∷ xs) (suc j) h = take_past n xs j (le_of_suc-le-suc h)

-- the byte i is stored behind those that are right
pub one_more : (bytes : List ℕ) (f : ℕ → ℕ) (i v : ℕ) → i < length bytes → v ≡ f i → ((j : ℕ) → j < i → get_or bytes j 0 ≡ f j) → (j : ℕ) → j < i + 1 → get_or (set bytes i v) j 0 ≡ f j
one_more bytes f i v u e h = below_more _ _ (λ j w. get_or-set_other bytes i j v 0 (λ (q : j ≡ i). omega arith) ∙ h j w) (get_or-set_same bytes i v 0 u ∙ e)

-- and those behind it stay 0
pub zeros-behind : (bytes : List ℕ) (i v : ℕ) → ((j : ℕ) → i ≤ j → get_or bytes j 0 ≡ 0) → (j : ℕ) → i + 1 ≤ j → get_or (set bytes i v) j 0 ≡ 0
zeros-behind bytes i v z j h = get_or-set_other bytes i j v 0 (λ (q : j ≡ i). omega arith) ∙ z j (omega arith)

-- what agrees with a list byte by byte up to m, the smaller of `size` and n, and is 0 from there on, is its beginning with zeros up to n
padded-part : (n size m : ℕ) (xs bytes : List ℕ) → m ≡ min size n → length bytes ≡ n → ((j : ℕ) → j < m → get_or bytes j 0 ≡ get_or xs j 0) → ((j : ℕ) → m ≤ j → get_or bytes j 0 ≡ 0)
    → bytes ≡ padded n (take size xs)
padded-part n size m xs bytes s e h z = ext_get_or 0 bytes (padded n (take size xs)) (e ∙ sym (padded-length n (take size xs))) (λ j u. same j u (dec_lt j size))
  where
    same : (j : ℕ) → j < length bytes → Dec (j < size) → get_or bytes j 0 ≡ get_or (padded n (take size xs)) j 0
    same j u (yes l) = h j (omega arith) ∙ sym (padded-at n (take size xs) j (omega arith) ∙ get_or-take size xs j 0 l)
    same j u (no l) = z j (omega arith) ∙ sym (padded-at n (take size xs) j (omega arith) ∙ take_past size xs j (omega arith))

-- the same of the image from a byte on, or from its end on where that comes first
pub part-filled : (n size m at k : ℕ) (img bytes : List ℕ) → k ≡ min at (length img) → m ≡ min size n → length bytes ≡ n
    → ((j : ℕ) → j < m → get_or bytes j 0 ≡ get_or (take (length img - k) (drop k img)) j 0) → ((j : ℕ) → m ≤ j → get_or bytes j 0 ≡ 0) → bytes ≡ padded n (take size (drop at img))
part-filled n size m at k img bytes ek s e h z =
    let rest : take (length img - k) (drop k img) ≡ drop at img = take_all (length img - k) (drop k img) (simp length-drop (omega arith)) ∙ rw ek (drop_min at img) in
    padded-part n size m _ bytes s e h z ∙ ap (λ (l : List ℕ). padded n (take size l)) rest
