-- Block mapping keeps what is said of it in the words of the leaf records.
-- Assumes nothing.
use mathlib.Core.Path.{◌≡◌, sym, ap, subst, ◌∙◌}
use mathlib.Core.Logic.{◌≢◌, ◌⊎◌, inl, inr, ⊎_elim}
use mathlib.Core.List.{List}
use Prim.Native.Nat.{ℕ, ◌≤◌, ◌<◌}
use native.Mathlib.Omega.{arith}
use native.Mathlib.Decide.{dec_le}
use Rattle.btree.specs.Places.{image_start}
use Rattle.btree.specs.Lists.{◌∈◌}
use Rattle.btree.specs.Tree.{Rec}
use Rattle.btree.specs.Search.{place_of}
use Rattle.btree.proofs.Decisions.{cond_yes, cond_no}
use Rattle.catalog_keys.specs.Key.{Key}
use Rattle.catalog_entries.specs.declared.File.{File}
use Rattle.catalog.specs.Answers.{entry_of}
use Rattle.catalog.specs.Reader.{leaf_list}
use Rattle.catalog.specs.Demands.{HasKey}
use Rattle.coverings.specs.declared.answers.Source.{Source}
use Rattle.coverings.specs.declared.answers.Covering.{Covering}
use Rattle.coverings.specs.declared.answers.Mapping.{Mapping}
use Rattle.coverings.specs.declared.answers.Mapping.TheVariants.{Mapped, Refused}
use Rattle.coverings.specs.Answers.{last_block, mapped_to}
use Rattle.coverings.specs.Covered.{no_file, uncovered}
use Rattle.blocks.specs.Demands.{IsFile, Given, SoundBlock}
use Rattle.blocks.proofs.Outcome.{NoFile, Uncovered, NoKey, absent_at, Outcome}

module _ (c : Covering) (v : ℕ) where
  within : v ≤ last_block → mapped_to c v ≡ Mapped c v
  unfolding mapped_to
  within h = cond_yes (dec_le v last_block) _ _ h

  beyond : last_block < v → mapped_to c v ≡ Refused c.source 18 image_start
  unfolding mapped_to
  beyond h = cond_no (dec_le v last_block) _ _ (λ w. omega arith)

-- the number of an answer, by which refusals are told apart
abbrev number_of : Mapping → ℕ
number_of (Mapped c v) = 0
number_of (Refused source number place) = number

mapped-number : (c : Covering) (v : ℕ) → (number_of (mapped_to c v) ≡ 0) ⊎ (number_of (mapped_to c v) ≡ 18)
mapped-number c v = go (dec_le v last_block)
  where
    go : Dec (v ≤ last_block) → (number_of (mapped_to c v) ≡ 0) ⊎ (number_of (mapped_to c v) ≡ 18)
    go (yes h) = inl (ap number_of (within c v h))
    go (no h) = inr (ap number_of (beyond c v (omega arith)))

module _ (cat ext : List ℕ) (k : Key) (fork block : ℕ) (r : Mapping)
    (once : (c d : Covering) (u v : ℕ) → Given cat ext k fork block c u → Given cat ext k fork block d v → (c ≡ d) × (u ≡ v))
    (key_once : (x y : Rec) → x ∈ leaf_list cat → y ∈ leaf_list cat → HasKey cat k x → HasKey cat k y → x ≡ y)
    (outcome : Outcome cat ext k fork block r) where
  -- a record is not a file and no file
  apart : (x y : Rec) (f : File) → IsFile cat ext k fork block x f → NoFile cat ext k fork block y → ⊥
  apart x y f a n = n.other f (ap (λ (o : Rec). entry_of cat (place_of o)) (key_once y x n.listed a.listed n.has_key a.has_key) ∙ a.is_entry)

  -- the answer by what holds
  of-given : (c : Covering) (v : ℕ) → Given cat ext k fork block c v → r ≡ mapped_to c v
  of-given c v g =
      ⊎_elim (λ (d, u, h, e). let (i, j) = once d c u v h g in e ∙ ap (λ (o : Covering). mapped_to o u) i ∙ ap (mapped_to c) j)
      (⊎_elim (λ (n, e). absurd (n.1 c v g))
      (⊎_elim (λ (x, n, e). absurd (apart g.0 x g.1 g.2.is_file n))
      (λ (n, e). let i = g.2.is_file in absurd (n g.0 i.listed i.has_key)))) outcome

  of-uncovered : Uncovered cat ext k fork block → r ≡ uncovered
  of-uncovered ((y, f, i), n) =
      ⊎_elim (λ (c, v, g, e). absurd (n c v g))
      (⊎_elim (λ (m, e). e)
      (⊎_elim (λ (x, m, e). absurd (apart y x f i m))
      (λ (m, e). absurd (m y i.listed i.has_key)))) outcome

  of-no-file : (y : Rec) → NoFile cat ext k fork block y → r ≡ no_file
  of-no-file y n =
      ⊎_elim (λ (c, v, g, e). absurd (apart g.0 y g.1 g.2.is_file n))
      (⊎_elim (λ (((x, f, i), _), e). absurd (apart x y f i n))
      (⊎_elim (λ (x, m, e). e)
      (λ (m, e). absurd (m y n.listed n.has_key)))) outcome

  of-no-key : NoKey cat ext k fork block → r ≡ absent_at cat ext k fork block
  of-no-key n =
      ⊎_elim (λ (c, v, g, e). let i = g.2.is_file in absurd (n g.0 i.listed i.has_key))
      (⊎_elim (λ (((x, f, i), _), e). absurd (n x i.listed i.has_key))
      (⊎_elim (λ (x, m, e). absurd (n x m.listed m.has_key))
      (λ (m, e). e))) outcome

  -- what holds by the answer, that is by its number
  number : (m : Mapping) → r ≡ m → number_of r ≡ number_of m
  number m e = ap number_of e

  given-of : number_of r ≢ 17 → number_of r ≢ 24 → number_of r ≢ 12 → (c : Covering) × (v : ℕ) × (Given cat ext k fork block c v) × (r ≡ mapped_to c v)
  given-of a b d =
      ⊎_elim (λ g. g) (⊎_elim (λ (n, e). absurd (a (number _ e))) (⊎_elim (λ (x, n, e). absurd (b (number _ e))) (λ (n, e). absurd (d (number _ e))))) outcome

  not-mapped : (c : Covering) (v : ℕ) (n : ℕ) → n ≢ 0 → n ≢ 18 → number_of r ≡ n → r ≡ mapped_to c v → ⊥
  not-mapped c v n a b e w = ⊎_elim (λ z. a (sym e ∙ number _ w ∙ z)) (λ z. b (sym e ∙ number _ w ∙ z)) (mapped-number c v)

  uncovered-of : number_of r ≡ 17 → Uncovered cat ext k fork block
  uncovered-of z =
      ⊎_elim (λ (c, v, g, e). absurd (not-mapped c v 17 (λ w. omega arith) (λ w. omega arith) z e))
      (⊎_elim (λ (n, e). n) (⊎_elim (λ (x, n, e). let q = number _ e in absurd (omega arith)) (λ (n, e). let q = number _ e in absurd (omega arith)))) outcome

  no-file-of : number_of r ≡ 24 → (x : Rec) × NoFile cat ext k fork block x
  no-file-of z =
      ⊎_elim (λ (c, v, g, e). absurd (not-mapped c v 24 (λ w. omega arith) (λ w. omega arith) z e))
      (⊎_elim (λ (n, e). let q = number _ e in absurd (omega arith)) (⊎_elim (λ (x, n, e). (x, n)) (λ (n, e). let q = number _ e in absurd (omega arith)))) outcome

  no-key-of : number_of r ≡ 12 → NoKey cat ext k fork block
  no-key-of z =
      ⊎_elim (λ (c, v, g, e). absurd (not-mapped c v 12 (λ w. omega arith) (λ w. omega arith) z e))
      (⊎_elim (λ (n, e). let q = number _ e in absurd (omega arith)) (⊎_elim (λ (x, n, e). let q = number _ e in absurd (omega arith)) (λ (n, e). n))) outcome

  mapped-of : (c : Covering) (v : ℕ) → r ≡ Mapped c v → Given cat ext k fork block c v × (v ≤ last_block)
  mapped-of c v e =
      let q = number _ e in
      let (d, u, g, w) = given-of (λ z. omega arith) (λ z. omega arith) (λ z. omega arith) in
      go d u g w (dec_le u last_block)
    where
      go : (d : Covering) (u : ℕ) → Given cat ext k fork block d u → r ≡ mapped_to d u → Dec (u ≤ last_block) → Given cat ext k fork block c v × (v ≤ last_block)
      go d u g w (yes h) =
          let s : Mapped d u ≡ Mapped c v = sym (within d u h) ∙ sym w ∙ e in
          let i : d ≡ c = cc in
          let j : u ≡ v = cc in
          (subst (λ (o : Covering). Given cat ext k fork block o v) i (subst (λ (n : ℕ). Given cat ext k fork block d n) j g), rw j at h)
      go d u g w (no h) = let q = ap number_of (sym e ∙ w ∙ beyond d u (omega arith)) in absurd (omega arith)

  above_of : (source : Source) → r ≡ Refused source 18 image_start → (c : Covering) × (v : ℕ) × (Given cat ext k fork block c v) × (last_block < v) × (c.source ≡ source)
  above_of source e =
      let q = number _ e in
      let (d, u, g, w) = given-of (λ z. omega arith) (λ z. omega arith) (λ z. omega arith) in
      go d u g w (dec_le u last_block)
    where
      go : (d : Covering) (u : ℕ) → Given cat ext k fork block d u → r ≡ mapped_to d u → Dec (u ≤ last_block) → (c : Covering) × (v : ℕ) × (Given cat ext k fork block c v) × (last_block < v) × (c.source ≡ source)
      go d u g w (yes h) = let q = ap number_of (sym e ∙ w ∙ within d u h) in absurd (omega arith)
      go d u g w (no h) =
          let s : Refused d.source 18 image_start ≡ Refused source 18 image_start = sym (beyond d u (omega arith)) ∙ sym w ∙ e in
          (d, u, g, omega arith, cc)

  pub sound-block : SoundBlock cat ext k fork block r
  sound-block =
      record {
        mapped = λ c v. (mapped-of c v, λ (g, h). of-given c v g ∙ within c v h);
        above = λ source. (above_of source, λ (c, v, g, h, i). of-given c v g ∙ beyond c v h ∙ ap (λ (s : Source). Refused s 18 image_start) i);
        is_uncovered = (λ e. uncovered-of (number _ e), of-uncovered);
        is_no_file = (
          λ e. let (x, n) = no-file-of (number _ e) in (x, n.listed, n.has_key, n.other),
          λ (x, m, h, n). of-no-file x (record { listed = m; has_key = h; other = n }),
        );
        absent = (λ e. no-key-of (number _ e), of-no-key);
      }
