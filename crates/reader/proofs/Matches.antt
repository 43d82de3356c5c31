-- What salvage says: the first match, or that there is none.
-- Assumes nothing.
use mathlib.Core.Path.{◌≡◌, refl, sym, subst, ◌∙◌}
use mathlib.Core.Bool.{Bool, true, false}
use mathlib.Core.Logic.{◌↔◌}
use mathlib.Core.List.{List}
use Prim.Native.Nat.{ℕ, ◌+◌, ◌-◌, ◌*◌, ◌/◌, ◌<◌, ◌≤◌}
use native.Mathlib.Omega.{arith}
use native.Mathlib.Decide.{dec_le}
use lib.ListN.{length}
use Rattle.btree.specs.declared.Place.{Place}
use Rattle.btree.specs.declared.Salvage.TheVariants.{Seen, Refused}
use Rattle.btree.specs.Places.{image_start, image_offset}
use Rattle.btree.specs.Decide.{cond, says}
use Rattle.btree.specs.Header.{view_of}
use Rattle.btree.proofs.Decisions.{cond_yes, cond_no}
use Rattle.frame.specs.declared.form.Form.{Form}
use Rattle.frame.specs.Form.{layout_of}
use Rattle.formats.specs.Format.{record_at, data_at, data_size_at}
use Rattle.frame.proofs.Forms.{whole-node}
use Rattle.formats.proofs.Starts.{record-inside}
use Rattle.scan.specs.Seen.{seen_from}
use Rattle.scan.proofs.Matches.{Has, never-refused, seen-iff, not_seen-iff}
use Rattle.reader.specs.Query.{Query}
use Rattle.reader.specs.Reader.{salvaged, salvaged_by}
use Rattle.reader.specs.Salvage.{Match, Searched, SalvageSays}
use Rattle.reader.proofs.Demands.{Means}

module _ (form : Form) (img : List ℕ) where
  -- salvage as the code is asked for it
  module _ (rank : ℕ) where
    pub by-long : 65536 * form.size < length img → salvaged_by form img true rank ≡ Refused 1 image_start
    by-long h = cond_no (dec_le (length img) (65536 * form.size)) _ _ (λ z. omega arith)

    pub by-searched : length img ≤ 65536 * form.size → salvaged_by form img true rank ≡ seen_from form img rank 1 (length img / form.size - 1)
    by-searched h = cond_yes (dec_le (length img) (65536 * form.size)) _ _ h

    -- what is seen is a record of a whole leaf, so its data lies in the image
    pub seen-inside : (lawful : Bool) (p : Place) → salvaged_by form img lawful rank ≡ Seen p
        → data_at form img (image_offset (layout_of form) p) + data_size_at form img (image_offset (layout_of form) p) ≤ length img
    unfolding view_of
    seen-inside false p e = let z : ◌≡◌ {A = ℕ} 0 1 = cc in absurd (omega arith)
    seen-inside true p e = go (dec_le (length img) (65536 * form.size))
      where
        Hit : ℕ → ℕ → Type 0
        Hit n i = (1 ≤ n) × (n < length img / form.size) × Has form img rank n i

        go : Dec (length img ≤ 65536 * form.size) → data_at form img (image_offset (layout_of form) p) + data_size_at form img (image_offset (layout_of form) p) ≤ length img
        go (no q) = let x = by-long (omega arith) in let z : ◌≡◌ {A = ℕ} 0 1 = cc in absurd (omega arith)
        go (yes q) =
            let (n, i, f, w) = (seen-iff form img rank (length img / form.size) Hit (λ n i. (λ h. h, λ h. h)) p).0 (sym (by-searched q) ∙ e) in
            let (a, b, h) = f.here in
            subst (λ (o : Place). data_at form img (image_offset (layout_of form) o) + data_size_at form img (image_offset (layout_of form) o) ≤ length img) w
            (record-inside form img n i h.counts.records (whole-node form (length img) n b) h.inside)

  module _ (q : Query) where
    pub salvage-by : salvaged form img q ≡ salvaged_by form img (says q.dec_lawful) q.rank
    unfolding salvaged says
    salvage-by = go q.dec_lawful
      where
        go : (d : Dec q.Lawful) → cond d (salvaged_by form img true q.rank) (Refused 11 image_start) ≡ salvaged_by form img (says d) q.rank
        go (yes p) = refl
        go (no n) = refl

    pub salvage-unlawful : (q.Lawful → ⊥) → salvaged form img q ≡ Refused 11 image_start
    unfolding salvaged
    salvage-unlawful n = cond_no q.dec_lawful _ _ n

    salvage-long : q.Lawful → 65536 * form.size < length img → salvaged form img q ≡ Refused 1 image_start
    unfolding salvaged
    salvage-long l h = cond_yes q.dec_lawful _ _ l ∙ by-long q.rank h

    pub salvage-searched : Searched form img q → salvaged form img q ≡ seen_from form img q.rank 1 (length img / form.size - 1)
    unfolding salvaged
    salvage-searched s = cond_yes q.dec_lawful _ _ s.lawful ∙ by-searched q.rank s.few

    -- it is refused for the key or for the length alone
    pub salvage-never : (number : ℕ) → 11 < number → (place : Place) → salvaged form img q ≡ Refused number place → ⊥
    unfolding salvaged
    salvage-never number h place e = go q.dec_lawful (dec_le (length img) (65536 * form.size)) e
      where
        go : (d : Dec q.Lawful) (s : Dec (length img ≤ 65536 * form.size))
            → cond d (cond s (seen_from form img q.rank 1 (length img / form.size - 1)) (Refused 1 image_start)) (Refused 11 image_start) ≡ Refused number place → ⊥
        go (no n) s w = let z : 11 ≡ number = cc in omega arith
        go (yes p) (no n) w = let z : 1 ≡ number = cc in omega arith
        go (yes p) (yes s) w = never-refused form img q.rank 1 (length img / form.size - 1) number place w

    -- a match, by the key's number
    match-same : Means form img q → q.Lawful → (n i : ℕ) → Match form img q n i ↔ ((1 ≤ n) × (n < length img / form.size) × Has form img q.rank n i)
    unfolding view_of
    match-same means l n i =
        let e = means l (record_at form img n i) in (
          λ m. (m.after_header, m.complete, record { counts = m.counts; inside = m.inside; is_key = e.0 m.is_key }),
          λ (a, c, h). record { after_header = a; complete = c; counts = h.counts; inside = h.inside; is_key = e.1 h.is_key },
        )

    pub salvage-says : Means form img q → SalvageSays form img q (salvaged form img q)
    salvage-says means =
        record {
          unlawful = salvage-unlawful;
          long = salvage-long;
          seen = λ s p. rw (salvage-searched s) (seen-iff form img q.rank (length img / form.size) (Match form img q) (match-same means s.lawful) p);
          not_seen = λ s. rw (salvage-searched s) (not_seen-iff form img q.rank (length img / form.size) (Match form img q) (match-same means s.lawful));
        }
