-- The result of a key says what the single lookup says, and keeps demand 3.
-- Assumes nothing.
use mathlib.Core.Path.{◌≡◌, refl, sym, ap, ◌∙◌}
use mathlib.Core.Logic.{◌⊎◌, inl, inr, ⊎_elim}
use mathlib.Core.List.{List}
use Prim.Native.Nat.{ℕ, ◌+◌, ◌≤◌, ◌<◌}
use native.Mathlib.Omega.{arith}
use native.Mathlib.Decide.{dec_lt}
use lib.ListN.{length}
use Rattle.btree.specs.declared.Answer.{Answer}
use Rattle.btree.specs.declared.Answer.TheVariants.{Found, Absent, Refused}
use Rattle.btree.specs.declared.Lookup.{Lookup}
use Rattle.btree.specs.declared.Place.{Place}
use Rattle.btree.specs.Lists.{◌∈◌}
use Rattle.btree.specs.Tree.{Rec}
use Rattle.btree.specs.Search.{place_of, answer_of}
use Rattle.btree.proofs.Decisions.{cond_yes, cond_no}
use Rattle.btree.proofs.Answers.{descent-answers}
use Rattle.btree.proofs.Checked.{check-says}
use Rattle.frame.specs.Form.{hfs, layout_of, key_size}
use Rattle.frame.proofs.Forms.{hfs-listed, fair, fits}
use Rattle.extent_keys.specs.declared.key.Key.{Key}
use Rattle.extent_keys.specs.Key.{rank, packed, IsShort, unpacked, key_limit, IsKey, dec_key}
use Rattle.extent_nodes.specs.Records.{data_size}
use Rattle.formats.specs.Format.{format_of}
use Rattle.image.proofs.Words.{Bytes}
use Rattle.extent_keys.proofs.Order.{InRange, unpacked-range, unpacked-packed}
use Rattle.search.specs.Rows.{result_of, result_in}
use Rattle.search.proofs.Filled.{result-no-key, result-key}
use Rattle.extents.specs.Reader.{view, Sound, needed, checked, looked_up, leaf_list, data_part}
use Rattle.reader.specs.Demands.{SoundAnswer}
use Rattle.extents.specs.Demands.{HasKey}
use Rattle.extents.specs.Many.{result, ResultSays}
use Rattle.reader.proofs.Demands.{answer-inside, lookup-unlawful, lookup-answers, lookup-says}
use Rattle.editions.specs.Asked.{of_key}
use Rattle.editions.proofs.Asked.{means}

-- a place of data is never 0 or 1, so that the three cases of a result cannot be mistaken
pub place-apart : (img : List ℕ) (p : Place) → 2 ≤ (data_part img p).at
unfolding key_size
place-apart img p = omega arith

-- the single lookup of a key by its three numbers, and the result of its packed number
pub as-single : (img : List ℕ) (lent : ℕ) (k : Key) → InRange k → IsShort k → k.file < 4294967296 → result img lent (packed k) ≡ result_of img (looked_up img k lent).answer
unfolding result packed
as-single img lent k r b h =
    let a = r.fork in
    cond_yes (dec_lt (packed k) _) _ _ (omega arith) ∙ ap (λ (j : Key). result_of img (looked_up img j lent).answer) (unpacked-packed k r b)

module _ (img : List ℕ) (b : Bytes img) (lent number : ℕ) where
  single : number < key_limit → result img lent number ≡ result_of img (looked_up img (unpacked number) lent).answer
  unfolding result
  single h = cond_yes (dec_lt number _) _ _ (omega arith)

  single-no_key : (IsKey number → ⊥) → result img lent number ≡ 1
  unfolding result
  single-no_key h = go (dec_lt number key_limit)
    where
      go : Dec (number < key_limit) → result img lent number ≡ 1
      go (yes l) =
          single l ∙ ap (λ (x : Lookup). result_of img x.answer) (lookup-unlawful hfs (fair hfs hfs-listed) img (of_key hfs (unpacked number)) lent (λ f. h (l, f)))
      go (no l) = cond_no (dec_lt number _) _ _ (λ h. omega arith)

  module _ (z : (checked img lent).number ≡ 0) where
    -- the result of a key goes by what the descent answers
    descends : IsKey number → result img lent number ≡ result_of img (answer_of (view img) (rank (unpacked number)))
    descends h =
        single h.0 ∙ ap (λ (x : Lookup). result_of img x.answer) (lookup-answers hfs (fair hfs hfs-listed) img (of_key hfs (unpacked number)) lent h.1 z)

    -- which is what a row is filled with
    pub result-is : result_in img number ≡ result img lent number
    result-is = go (dec_key number)
      where
        go : Dec (IsKey number) → result_in img number ≡ result img lent number
        go (yes h) = result-key img number h ∙ sym (descends h)
        go (no h) = result-no-key img number h ∙ sym (single-no_key h)

    sound : Sound img × (needed img ≤ lent)
    sound = (check-says (layout_of hfs) img (format_of hfs) lent (fits hfs (fair hfs hfs-listed)) (checked img lent) refl).sound.0 z

    module _ (h : IsKey number) where
      abbrev looked : Lookup
      looked = looked_up img (unpacked number) lent

      answers : SoundAnswer hfs img (of_key hfs (unpacked number)) looked
      answers = (lookup-says hfs (fair hfs hfs-listed) img (of_key hfs (unpacked number)) lent (means 0 512 img (unpacked number) b (unpacked-range number))).of_sound sound.0 h.1 sound.1

      is : (a : Answer) → looked.answer ≡ a → result img lent number ≡ result_of img a
      is a e = single h.0 ∙ ap (result_of img) e

      abbrev IsFound : Type 0
      IsFound = (p : Place) × (looked.answer ≡ Found p) × (result img lent number ≡ (data_part img p).at)

      abbrev IsAbsent : Type 0
      IsAbsent = (n : ℕ) × (looked.answer ≡ Absent n) × (result img lent number ≡ 0)

      -- once the image has been checked nothing else is left
      either : IsFound ⊎ IsAbsent
      either = go looked.answer refl
        where
          go : (a : Answer) → looked.answer ≡ a → IsFound ⊎ IsAbsent
          go (Found p) e = inl (p, e, is (Found p) e)
          go (Absent n) e = inr (n, e, is (Absent n) e)
          go (Refused n o) e =
              absurd (descent-answers (view img) (rank (unpacked number)) n o
              (sym (ap (λ (l : Lookup). l.answer) (lookup-answers hfs (fair hfs hfs-listed) img (of_key hfs (unpacked number)) lent h.1 z)) ∙ e))

      not-1 : result img lent number ≡ 1 → ⊥
      not-1 q = ⊎_elim (λ (p, e, r). let a = place-apart img p in omega arith) (λ (n, e, r). omega arith) either

      inside : 2 ≤ result img lent number → result img lent number + 12 ≤ length img
      unfolding data_size
      inside q =
          ⊎_elim (λ (p, e, r). let a = answer-inside hfs (fair hfs hfs-listed) img sound.0 (rank (unpacked number)) p (sym (ap (λ (l : Lookup). l.answer) (lookup-answers hfs (fair hfs hfs-listed) img (of_key hfs (unpacked number)) lent h.1 z)) ∙ e) in omega arith)
          (λ (n, e, r). absurd (omega arith)) either

      found : (p : ℕ) → ((result img lent number ≡ p) × (2 ≤ p)) → (x : Rec) × (x ∈ leaf_list img) × (HasKey img (unpacked number) x) × ((data_part img (place_of x)).at ≡ p)
      found p (q, u) =
          ⊎_elim (λ (o, e, r). let (x, m, k, w) = (answers.found o).0 e in (x, m, k, ap (λ (o : Place). (data_part img o).at) w ∙ sym r ∙ q))
          (λ (n, e, r). absurd (omega arith)) either

      finds : (p : ℕ) → ((x : Rec) × (x ∈ leaf_list img) × (HasKey img (unpacked number) x) × ((data_part img (place_of x)).at ≡ p)) → (result img lent number ≡ p) × (2 ≤ p)
      finds p (x, m, k, w) = let a = place-apart img (place_of x) in (is (Found (place_of x)) ((answers.found (place_of x)).1 (x, m, k, refl)) ∙ w, omega arith)

      none : result img lent number ≡ 0 → (x : Rec) → x ∈ leaf_list img → HasKey img (unpacked number) x → ⊥
      none q = ⊎_elim (λ (p, e, r). let a = place-apart img p in absurd (omega arith)) (λ (n, e, r). answers.absent.0 (n, e)) either

      absents : ((x : Rec) → x ∈ leaf_list img → HasKey img (unpacked number) x → ⊥) → result img lent number ≡ 0
      absents f = let (n, e) = answers.absent.1 f in is (Absent n) e

    pub result_says : ResultSays img number (result img lent number)
    result_says =
        record {
          no_key = (λ q h. not-1 h q, single-no_key);
          found = λ h p. (found h p, finds h p);
          inside = within (dec_key number);
          absent = λ h. (none h, absents h);
        }
      where
        within : Dec (IsKey number) → 2 ≤ result img lent number → result img lent number + 12 ≤ length img
        within (yes h) q = inside h q
        within (no h) q = let e = single-no_key h in absurd (omega arith)
