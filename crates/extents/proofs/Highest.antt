-- The leaf record with the highest key not above another: the descent for its number finds it, and the call for it says so.
-- Assumes nothing.
use mathlib.Core.Path.{◌≡◌, refl, sym, ap, subst, ◌∙◌}
use mathlib.Core.Logic.{◌≢◌}
use mathlib.Core.List.{List}
use Prim.Native.Nat.{ℕ, ◌+◌, ◌*◌, ◌≤◌, ◌<◌}
use native.Mathlib.Omega.{arith}
use native.Mathlib.Decide.{ℕ_discrete, dec_le, dec_lt}
use lib.IntN.{pos, negsuc}
use lib.ListN.{length}
use Rattle.btree.specs.declared.Answer.{Answer}
use Rattle.btree.specs.declared.Answer.TheVariants as answer
use Rattle.btree.specs.declared.Place.{Place}
use Rattle.btree.specs.declared.Verdict.{Verdict}
use Rattle.btree.specs.Places.{image_start}
use Rattle.btree.specs.Lists.{◌∈◌}
use Rattle.btree.specs.Tree.{Rec}
use Rattle.btree.specs.Header.{view_of}
use Rattle.btree.specs.Numbers.{lookup_reply}
use Rattle.btree.specs.Search.{place_of, floor_of, Floor}
use Rattle.btree.specs.Walk.{fails}
use Rattle.btree.specs.Work.{work_left}
use Rattle.btree.proofs.Decisions.{cond_yes, cond_no}
use Rattle.btree.proofs.Ordered.{if-zero, if-other}
use Rattle.btree.proofs.Ranked.{ranked-below, ranked-above, ranked-same}
use Rattle.btree.proofs.Paths.{leaf-stands}
use Rattle.btree.proofs.Floors.{floor-number}
use Rattle.btree.proofs.Checked.{checked-else, of-few, check-says}
use Rattle.btree.proofs.Soundness.{verdict-sound}
use Rattle.btree.proofs.Work.{sound-most, left-same, leaves}
use Rattle.frame.specs.Form.{hfs, layout_of}
use Rattle.frame.proofs.Forms.{hfs-listed, fair, fits}
use Rattle.extent_keys.specs.declared.key.Key.{Key}
use Rattle.extent_keys.specs.Key.{Lawful, dec_lawful, key_at, rank}
use Rattle.image.proofs.Words.{Bytes}
use Rattle.extent_keys.proofs.Order.{InRange, key-range, rank-order}
use Rattle.extent_nodes.specs.Records.{data_size}
use Rattle.formats.specs.Format.{format_of, record_at}
use Rattle.reader.proofs.Parts.{listed-inside}
use Rattle.reader.proofs.Pointers.{floor-found, floor-absent, floor-once}
use Rattle.extents.specs.declared.floors.ExtentRecord.{ExtentRecord}
use Rattle.extents.specs.declared.floors.Floor as floors
use Rattle.extents.specs.declared.floors.Floor.TheVariants as floor
use Rattle.extents.specs.Reader.{view, Sound, verdict, needed, checked, CheckSays, Leaves, leaf_list, data_part}
use Rattle.extents.specs.Floor.{floor_reply, key_in, record_of, floored_as, floored, key_of, NotAbove, IsFloor, SoundFloor, FloorSays}

-- a key is not above another exactly when its number is not
module _ (img : List ℕ) (a b : Key) (ra : InRange a) (rb : InRange b) where
  not-above : NotAbove img a b → rank a ≤ rank b
  not-above n = go (dec_le (rank a) (rank b))
    where
      go : Dec (rank a ≤ rank b) → rank a ≤ rank b
      go (yes l) = l
      go (no l) = absurd (n (rank-order a b ra rb ∙ ranked-above (rank a) (rank b) _ (omega arith)))

  at_most : rank a ≤ rank b → NotAbove img a b
  at_most l e = go (dec_lt (rank a) (rank b))
    where
      go : Dec (rank a < rank b) → ⊥
      go (yes h) = let w : negsuc 0 ≡ pos 1 = sym (ranked-below (rank a) (rank b) _ h) ∙ sym (rank-order a b ra rb) ∙ e in let z : ◌≡◌ {A = ℕ} 0 1 = cc in omega arith
      go (no h) = let w : pos 0 ≡ pos 1 = sym (ranked-same (rank a) (rank b) _ (omega arith)) ∙ sym (rank-order a b ra rb) ∙ e in let z : ◌≡◌ {A = ℕ} 0 1 = cc in omega arith

module _ (img : List ℕ) (bytes : Bytes img) (k : Key) (range : InRange k) (s : Sound img) where
  own_range : (x : Rec) → InRange (key_of img x)
  own_range x = key-range hfs img bytes (record_at hfs img x.node x.number)

  own-rank : (x : Rec) → x ∈ leaf_list img → rank (key_of img x) ≡ x.key
  unfolding view_of
  own-rank x m = (leaf-stands (view img) s.tree s.totals x m).is_key

  floor-by : (x : Rec) → IsFloor img k x → Floor (view img) (rank k) x
  floor-by x f =
      let e = own-rank x f.listed in
      record {
        listed = f.listed;
        not_above = rw e at (not-above img (key_of img x) k (own_range x) range f.not_above);
        highest = λ y m l.
            let w = own-rank y m in
            let h = f.highest y m (at_most img (key_of img y) k (own_range y) range (rw w l)) in
            rw (w, e) at (not-above img (key_of img y) (key_of img x) (own_range y) (own_range x) h);
      }

  is-floor : (x : Rec) → Floor (view img) (rank k) x → IsFloor img k x
  is-floor x f =
      let e = own-rank x f.listed in
      record {
        listed = f.listed;
        not_above = at_most img (key_of img x) k (own_range x) range (rw e f.not_above);
        highest = λ y m n.
            let w = own-rank y m in
            let h = f.highest y m (rw w at (not-above img (key_of img y) k (own_range y) range n)) in
            at_most img (key_of img y) (key_of img x) (own_range y) (own_range x) (rw (w, e) h);
      }

  abbrev found : floors.Floor
  found = floored_as img (floor_of (view img) (rank k))

  at_some : (p : Place) (e : ExtentRecord) → found ≡ floor.At p e → (x : Rec) × IsFloor img k x × (place_of x ≡ p) × (record_of img p ≡ e)
  at_some p e = go (floor_of (view img) (rank k)) refl
    where
      go : (a : Answer) → floor_of (view img) (rank k) ≡ a → floored_as img a ≡ floor.At p e → (x : Rec) × IsFloor img k x × (place_of x ≡ p) × (record_of img p ≡ e)
      go (answer.Found q) w h =
          let (x, f, o) = (floor-found hfs img s (rank k) q).0 w in
          let i : q ≡ p = cc in
          (x, is-floor x f, o ∙ i, cc)
      go (answer.Absent n) w h = let z : ◌≡◌ {A = ℕ} 0 1 = cc in absurd (omega arith)
      go (answer.Refused n o) w h = let z : ◌≡◌ {A = ℕ} 0 1 = cc in absurd (omega arith)

  some_at : (p : Place) (e : ExtentRecord) → ((x : Rec) × IsFloor img k x × (place_of x ≡ p) × (record_of img p ≡ e)) → found ≡ floor.At p e
  some_at p e (x, f, o, w) = ap (floored_as img) ((floor-found hfs img s (rank k) p).1 (x, floor-by x f, o)) ∙ ap (floor.At p) w

  nowhere-none : found ≡ floor.Nowhere → (x : Rec) → x ∈ leaf_list img → NotAbove img (key_of img x) k → ⊥
  nowhere-none = go (floor_of (view img) (rank k)) refl
    where
      go : (a : Answer) → floor_of (view img) (rank k) ≡ a → floored_as img a ≡ floor.Nowhere → (x : Rec) → x ∈ leaf_list img → NotAbove img (key_of img x) k → ⊥
      go (answer.Found q) w h = let z : ◌≡◌ {A = ℕ} 0 1 = cc in absurd (omega arith)
      go (answer.Absent n) w h = λ x m l.
          let a = (floor-absent hfs img s (rank k)).0 (n, w) x m in
          let b = rw (own-rank x m) at (not-above img (key_of img x) k (own_range x) range l) in
          omega arith
      go (answer.Refused n o) w h = let z : ◌≡◌ {A = ℕ} 0 1 = cc in absurd (omega arith)

  none-nowhere : ((x : Rec) → x ∈ leaf_list img → NotAbove img (key_of img x) k → ⊥) → found ≡ floor.Nowhere
  none-nowhere f = let (n, e) = (floor-absent hfs img s (rank k)).1 above in ap (floored_as img) e
    where
      above : (x : Rec) → x ∈ leaf_list img → rank k < x.key
      above x m = go (dec_le x.key (rank k))
        where
          go : Dec (x.key ≤ rank k) → rank k < x.key
          go (yes l) = absurd (f x m (at_most img (key_of img x) k (own_range x) range (rw (own-rank x m) l)))
          go (no l) = omega arith

  is-key : (x : Rec) → x ∈ leaf_list img → key_in (record_of img (place_of x)) ≡ key_of img x
  unfolding view_of record_of
  is-key x m = ap (λ (o : ℕ). key_at hfs img (x.node * 512 + o)) (sym (leaf-stands (view img) s.tree s.totals x m).is_offset)

  inside : (p : Place) (e : ExtentRecord) → found ≡ floor.At p e → (data_part img p).at + 12 ≤ length img
  unfolding data_size
  inside p e w =
      let (x, f, o, _) = at_some p e w in
      subst (λ (q : Place). (data_part img q).at + 12 ≤ length img) o (listed-inside hfs (fair hfs hfs-listed) img s x f.listed)

  sound-floor : SoundFloor img k found
  sound-floor =
      record {
        at = λ p e. (at_some p e, some_at p e);
        is_key = is-key;
        once = λ x y f g. floor-once hfs img s (rank k) x y (floor-by x f) (floor-by y g);
        nowhere = (nowhere-none, none-nowhere);
        inside = inside;
      }

-- the number of the answer is that of the descent
reply-number : (img : List ℕ) (a : Answer) → (floor_reply (floored_as img a)).number ≡ (lookup_reply a).number
reply-number img (answer.Found p) = refl
reply-number img (answer.Absent n) = refl
reply-number img (answer.Refused n p) = refl

module _ (img : List ℕ) (k : Key) (lent : ℕ) where
  pub floored-unlawful : (Lawful k.fork → ⊥) → floored img k lent ≡ floor.Refused 11 image_start
  unfolding floored
  floored-unlawful n = cond_no (dec_lawful k.fork) _ _ n

  pub floored-refused : Lawful k.fork → (checked img lent).number ≢ 0 → floored img k lent ≡ floor.Refused (checked img lent).number (checked img lent).place
  unfolding floored
  floored-refused h z = cond_yes (dec_lawful k.fork) _ _ h ∙ if-other (checked img lent).number _ _ z

  pub floored-answers : Lawful k.fork → (checked img lent).number ≡ 0 → floored img k lent ≡ floored_as img (floor_of (view img) (rank k))
  unfolding floored
  floored-answers h z = cond_yes (dec_lawful k.fork) _ _ h ∙ if-zero (checked img lent).number _ _ z

  abbrev check : CheckSays img lent (checked img lent)
  check = check-says (layout_of hfs) img (format_of hfs) lent (fits hfs (fair hfs hfs-listed)) (checked img lent) refl

  refused_as : Lawful k.fork → (t : Verdict) → checked img lent ≡ t → t.number ≢ 0 → floored img k lent ≡ floor.Refused t.number t.place
  refused_as h t e z = floored-refused h (λ w. z (sym (ap (λ (u : Verdict). u.number) e) ∙ w)) ∙ ap (λ (u : Verdict). floor.Refused u.number u.place) e

  never-16 : needed img ≤ lent → (floor_reply (floored img k lent)).number ≢ 16
  never-16 h w = go (dec_lawful k.fork) (ℕ_discrete (checked img lent).number 0)
    where
      number : (r : floors.Floor) → floored img k lent ≡ r → (floor_reply r).number ≡ 16
      number r e = ap (λ (f : floors.Floor). (floor_reply f).number) (sym e) ∙ w

      go : Dec (Lawful k.fork) → Dec ((checked img lent).number ≡ 0) → ⊥
      go (no u) d = let e = number _ (floored-unlawful u) in omega arith
      go (yes l) (no z) = (check.of_enough h).1 (number _ (floored-refused l z))
      go (yes l) (yes z) =
          let e = number _ (floored-answers l z) in
          let q = reply-number img (floor_of (view img) (rank k)) in
          let m = sound-most (lookup_reply (floor_of (view img) (rank k))).number (floor-number (view img) (rank k)) in
          omega arith

  pub floor-says : Bytes img → InRange k → FloorSays img k lent (floored img k lent)
  floor-says bytes range =
      record {
        of_sound = λ s h e. rw (floored-answers h (check.sound.1 (s, e))) (sound-floor img bytes k range s);
        of_unlawful = floored-unlawful;
        of_few = λ h t. refused_as h (fails 16 image_start) (of-few (layout_of hfs) img (format_of hfs) lent t) (λ z. omega arith);
        of_unsound = λ h t n. refused_as h (verdict img) (checked-else (layout_of hfs) img (format_of hfs) lent t) (λ z. n (verdict-sound (layout_of hfs) (fits hfs (fair hfs hfs-listed)) img (format_of hfs) z));
        of_enough = never-16;
      }

-- what the descent leaves in the bytes is what a sound verdict does
module _ (img : List ℕ) (rank : ℕ) (entry exit : List ℕ) where
  abbrev number : ℕ
  number = (floor_reply (floored_as img (floor_of (view img) rank))).number

  same : work_left (layout_of hfs) img (format_of hfs) 0 entry ≡ work_left (layout_of hfs) img (format_of hfs) number entry
  same = rw (reply-number img (floor_of (view img) rank)) (left-same (layout_of hfs) img (format_of hfs) _ entry (floor-number (view img) rank))

  pub descends : Leaves img 0 entry exit → Leaves img number entry exit
  descends w = leaves (layout_of hfs) img (format_of hfs) number entry exit (w.exactly ∙ same)

  pub ascends : Leaves img number entry exit → Leaves img 0 entry exit
  ascends w = leaves (layout_of hfs) img (format_of hfs) 0 entry exit (w.exactly ∙ sym same)
