-- A lookup keeps demand 3.
-- Assumes nothing.
use mathlib.Core.Path.{◌≡◌, refl, sym, ap, subst, ◌∙◌}
use mathlib.Core.Logic.{◌≢◌, ◌↔◌}
use mathlib.Core.Bool.{Bool, true, false}
use mathlib.Core.List.{List}
use Prim.Native.Nat.{ℕ, ◌+◌, ◌≤◌, ◌<◌}
use native.Mathlib.Omega.{arith}
use native.Mathlib.Decide.{ℕ_discrete}
use lib.ListN.{length}
use Rattle.btree.specs.declared.Answer.TheVariants.{Found, Absent}
use Rattle.btree.specs.declared.Lookup.{Lookup}
use Rattle.btree.specs.declared.Place.{Place}
use Rattle.btree.specs.declared.Verdict.{Verdict}
use Rattle.btree.specs.Places.{image_start, image_offset}
use Rattle.btree.specs.Decide.{says}
use Rattle.btree.specs.Lists.{◌∈◌, last_or}
use Rattle.btree.specs.Tree.{Rec}
use Rattle.btree.specs.Header.{depth_of, view_of}
use Rattle.btree.specs.Walk.{fails}
use Rattle.btree.specs.Numbers.{lookup_reply}
use Rattle.btree.specs.Search.{place_of, answer_of, refused, descent_of, after_check, lookup_of}
use Rattle.btree.proofs.Ordered.{if-zero, if-other}
use Rattle.btree.proofs.Paths.{path-short, leaf-stands, leaf_list-once}
use Rattle.btree.proofs.Checked.{checked-else, of-few, checked-not, check-says}
use Rattle.btree.proofs.Soundness.{verdict-sound}
use Rattle.btree.proofs.Answers.{answer-number, found-leaf, found-record, record-found, absent_none, none-absent, absent-place}
use Rattle.btree.proofs.Work.{sound-most, left-same, leaves}
use Rattle.frame.specs.declared.form.Form.{Form}
use Rattle.frame.specs.Form.{layout_of, Fair}
use Rattle.frame.proofs.Forms.{fits}
use Rattle.formats.specs.Format.{format_of, record_at, view, rank_at, data_at, data_size_at}
use Rattle.reader.specs.Query.{Query}
use Rattle.reader.specs.Reader.{Sound, verdict, needed, checked, CheckSays, Leaves, leaf_list, search_path, keys_compared, looked_up, looked_up_by}
use Rattle.reader.specs.Demands.{HasKey, SoundAnswer, LookupSays}
use Rattle.reader.proofs.Compared.{digits_in}
use Rattle.reader.proofs.Parts.{leaf-inside}

-- a key stands at a byte of the image exactly where its number does
abbrev pub Means : Form → List ℕ → Query → Type 0
Means form img q = q.Lawful → (at : ℕ) → q.IsAt img at ↔ (rank_at form img at ≡ q.rank)

module _ (form : Form) (img : List ℕ) (q : Query) (means : Means form img q) (lawful : q.Lawful) (s : Sound form img) where
  -- a leaf record has the key where its number is that of the key
  has-rank : (x : Rec) → x ∈ leaf_list form img → HasKey form img q x ↔ (x.key ≡ q.rank)
  unfolding view_of
  has-rank x m =
      let e = (leaf-stands (view form img) s.tree s.totals x m).is_key in
      let i = means lawful (record_at form img x.node x.number) in
      (λ h. sym e ∙ i.0 h, λ h. i.1 (e ∙ h))

  sound-answer : (l : Lookup) → l ≡ descent_of (view form img) q.rank → SoundAnswer form img q l
  unfolding view_of
  sound-answer l e =
      record {
        found = λ p. (found p, finds p);
        once = λ x y mx my hx hy. leaf_list-once (view form img) s.tree s.totals x y mx my ((has-rank x mx).0 hx ∙ sym ((has-rank y my).0 hy));
        absent = (none, absents);
        last_node = λ n e. sym (absent-place (view form img) q.rank n (sym a ∙ e));
        path = ap (λ (l : Lookup). l.path) e;
        whole = whole;
        short = path-short (view form img) q.rank;
        eight = s.header.depth_in_range;
        counted = c;
        digits = λ n m. digits_in form img q.rank n;
      }
    where
      a : l.answer ≡ answer_of (view form img) q.rank
      a = ap (λ (l : Lookup). l.answer) e

      c : l.compared ≡ keys_compared form img q
      c = ap (λ (l : Lookup). l.compared) e

      found : (p : Place) → l.answer ≡ Found p → (x : Rec) × (x ∈ leaf_list form img) × (HasKey form img q x) × (place_of x ≡ p)
      found p e =
          let (x, m, h, w) = found-record (view form img) s.tree s.totals q.rank p (sym a ∙ e) in
          (x, m, (has-rank x m).1 h, w)

      finds : (p : Place) → ((x : Rec) × (x ∈ leaf_list form img) × (HasKey form img q x) × (place_of x ≡ p)) → l.answer ≡ Found p
      finds p (x, m, h, w) = a ∙ ap (answer_of (view form img)) (sym ((has-rank x m).0 h)) ∙ record-found (view form img) s.tree s.totals x m ∙ ap Found w

      none : ((n : ℕ) × (l.answer ≡ Absent n)) → (x : Rec) → x ∈ leaf_list form img → HasKey form img q x → ⊥
      none (n, e) x m h = absent_none (view form img) s.tree s.totals q.rank n (sym a ∙ e) x m ((has-rank x m).0 h)

      absents : ((x : Rec) → x ∈ leaf_list form img → HasKey form img q x → ⊥) → (n : ℕ) × (l.answer ≡ Absent n)
      absents f = (last_or 0 (search_path form img q), a ∙ none-absent (view form img) s.tree s.totals q.rank (λ x m h. f x m ((has-rank x m).1 h)))

      whole : (p : Place) → l.answer ≡ Found p → length (search_path form img q) ≡ depth_of img
      whole p e =
          let (x, m, h, _) = found-record (view form img) s.tree s.totals q.rank p (sym a ∙ e) in
          rw h at (leaf-stands (view form img) s.tree s.totals x m).whole

-- the data of a record that the descent finds lies in the image
pub answer-inside : (form : Form) → Fair form → (img : List ℕ) → Sound form img → (k : ℕ) (p : Place) → answer_of (view form img) k ≡ Found p → data_at form img (image_offset (layout_of form) p) + data_size_at form img (image_offset (layout_of form) p) ≤ length img
unfolding view_of
answer-inside form fair img s k p e =
    let f = found-leaf (view form img) (view form img).depth k p e in
    subst (λ (o : Place). data_at form img (image_offset (layout_of form) o) + data_size_at form img (image_offset (layout_of form) o) ≤ length img) f.starts (leaf-inside form fair img s f.node f.number f.among f.inside)

module _ (form : Form) (fair : Fair form) (img : List ℕ) (q : Query) (lent : ℕ) where
  of-lawful : q.Lawful → looked_up form img q lent ≡ after_check (view form img) q.rank (checked form img lent)
  unfolding lookup_of
  of-lawful h = go q.dec_lawful
    where
      go : (d : Dec q.Lawful) → lookup_of (view form img) (checked form img lent) d q.rank ≡ after_check (view form img) q.rank (checked form img lent)
      go (yes p) = refl
      go (no n) = absurd (n h)

  pub lookup-unlawful : (q.Lawful → ⊥) → looked_up form img q lent ≡ refused 11 image_start
  unfolding lookup_of
  lookup-unlawful h = go q.dec_lawful
    where
      go : (d : Dec q.Lawful) → lookup_of (view form img) (checked form img lent) d q.rank ≡ refused 11 image_start
      go (yes p) = absurd (h p)
      go (no n) = refl

  -- refused as the check refuses
  pub lookup-refused : q.Lawful → ((checked form img lent).number ≡ 0 → ⊥) → looked_up form img q lent ≡ refused (checked form img lent).number (checked form img lent).place
  lookup-refused h z = of-lawful h ∙ if-other (checked form img lent).number _ _ z

  pub lookup-answers : q.Lawful → (checked form img lent).number ≡ 0 → looked_up form img q lent ≡ descent_of (view form img) q.rank
  lookup-answers h z = of-lawful h ∙ if-zero (checked form img lent).number _ _ z

  abbrev check : CheckSays form img lent (checked form img lent)
  check = check-says (layout_of form) img (format_of form) lent (fits form fair) (checked form img lent) refl

  refused_as : q.Lawful → (t : Verdict) → checked form img lent ≡ t → (t.number ≡ 0 → ⊥) → looked_up form img q lent ≡ refused t.number t.place
  refused_as h t e z = lookup-refused h (λ w. z (sym (ap (λ (u : Verdict). u.number) e) ∙ w)) ∙ ap (λ (u : Verdict). refused u.number u.place) e

  reply-number : (l : Lookup) → looked_up form img q lent ≡ l → (lookup_reply (looked_up form img q lent).answer).number ≡ (lookup_reply l.answer).number
  reply-number l e = ap (λ (x : Lookup). (lookup_reply x.answer).number) e

  -- a number that is neither 11 nor the check's, and above 12, is no answer's
  never : (n : ℕ) → 12 < n → (checked form img lent).number ≢ n → (lookup_reply (looked_up form img q lent).answer).number ≢ n
  never n h c w = go q.dec_lawful (ℕ_discrete (checked form img lent).number 0)
    where
      go : Dec q.Lawful → Dec ((checked form img lent).number ≡ 0) → ⊥
      go (no u) d = let e = reply-number (refused 11 image_start) (lookup-unlawful u) in omega arith
      go (yes p) (no z) = c (sym (reply-number (refused (checked form img lent).number (checked form img lent).place) (lookup-refused p z)) ∙ w)
      go (yes p) (yes z) =
          let e = reply-number (descent_of (view form img) q.rank) (lookup-answers p z) in
          let m = sound-most (lookup_reply (answer_of (view form img) q.rank)).number (answer-number (view form img) q.rank) in
          omega arith

  never-16 : needed form img ≤ lent → (lookup_reply (looked_up form img q lent).answer).number ≢ 16
  never-16 h = never 16 (omega arith) (λ z. let f = (check.only_few z).fewer in omega arith)

  pub never-25 : (lookup_reply (looked_up form img q lent).answer).number ≢ 25
  never-25 = never 25 (omega arith) (checked-not (layout_of form) img (format_of form) lent 25 (omega arith) (λ w. omega arith))

  pub lookup-says : Means form img q → LookupSays form img q lent (looked_up form img q lent)
  lookup-says means =
      record {
        of_sound = λ s h e. sound-answer form img q means h s (looked_up form img q lent) (lookup-answers h (check.sound.1 (s, e)));
        of_unlawful = lookup-unlawful;
        of_few = λ h t. refused_as h (fails 16 image_start) (of-few (layout_of form) img (format_of form) lent t) (λ z. omega arith);
        of_unsound = λ h t n. refused_as h (verdict form img) (checked-else (layout_of form) img (format_of form) lent t) (λ z. n (verdict-sound (layout_of form) (fits form fair) img (format_of form) z));
        of_enough = never-16;
      }

-- a lookup as the code is asked for it: whether the key may be asked for, and its number
module _ (form : Form) (img : List ℕ) (rank lent : ℕ) where
  pub by-refused : ((checked form img lent).number ≡ 0 → ⊥) → looked_up_by form img true rank lent ≡ refused (checked form img lent).number (checked form img lent).place
  by-refused z = if-other (checked form img lent).number _ _ z

  pub by-answers : (checked form img lent).number ≡ 0 → looked_up_by form img true rank lent ≡ descent_of (view form img) rank
  by-answers z = if-zero (checked form img lent).number _ _ z

pub lookup-by : (form : Form) (img : List ℕ) (q : Query) (lent : ℕ) → looked_up form img q lent ≡ looked_up_by form img (says q.dec_lawful) q.rank lent
unfolding lookup_of says
lookup-by form img q lent = go q.dec_lawful
  where
    go : (d : Dec q.Lawful) → lookup_of (view form img) (checked form img lent) d q.rank ≡ looked_up_by form img (says d) q.rank lent
    go (yes p) = refl
    go (no n) = refl

-- found is said of a sound image alone, as the descent answers; and the data of what is found lies in the image
module _ (form : Form) (fair : Fair form) (img : List ℕ) (rank lent : ℕ) (p : Place) where
  pub found-sound : (lawful : Bool) → (looked_up_by form img lawful rank lent).answer ≡ Found p → Sound form img × (answer_of (view form img) rank ≡ Found p)
  found-sound false e = let z : ◌≡◌ {A = ℕ} 0 1 = cc in absurd (omega arith)
  found-sound true e = go (ℕ_discrete (checked form img lent).number 0)
    where
      go : Dec ((checked form img lent).number ≡ 0) → Sound form img × (answer_of (view form img) rank ≡ Found p)
      go (no z) = let w = ap (λ (l : Lookup). l.answer) (by-refused form img rank lent z) in let y : ◌≡◌ {A = ℕ} 0 1 = cc in absurd (omega arith)
      go (yes z) = (
        ((check-says (layout_of form) img (format_of form) lent (fits form fair) (checked form img lent) refl).sound.0 z).0,
        sym (ap (λ (l : Lookup). l.answer) (by-answers form img rank lent z)) ∙ e,
      )

  pub found_inside : (lawful : Bool) → (looked_up_by form img lawful rank lent).answer ≡ Found p
      → data_at form img (image_offset (layout_of form) p) + data_size_at form img (image_offset (layout_of form) p) ≤ length img
  found_inside lawful e = let (s, f) = found-sound lawful e in answer-inside form fair img s rank p f

-- what the descent leaves in the bytes is what a sound verdict does
pub descends : (form : Form) (img : List ℕ) (rank : ℕ) (entry exit : List ℕ) (l : Lookup) → l ≡ descent_of (view form img) rank → Leaves form img 0 entry exit
    → Leaves form img (lookup_reply l.answer).number entry exit
descends form img rank entry exit l e w =
    rw e (leaves (layout_of form) img (format_of form) _ entry exit (w.exactly ∙ left-same (layout_of form) img (format_of form) _ entry (answer-number (view form img) rank)))
