-- What is answered of two sound images, in the words of their leaf records: one of four outcomes, of which no two hold at once.
-- Assumes nothing.
use mathlib.Core.Path.{◌≡◌, refl, sym, ap, subst, ◌∙◌}
use mathlib.Core.Logic.{◌≢◌, ◌⊎◌, inl, inr}
use mathlib.Core.List.{List}
use Prim.Native.Nat.{ℕ, ◌-◌, ◌≤◌, ◌<◌}
use native.Mathlib.Omega.{arith}
use native.Mathlib.Decide.{dec_lt}
use Rattle.btree.specs.declared.Place.{Place}
use Rattle.btree.specs.Places.{node_place}
use Rattle.btree.specs.Lists.{◌∈◌, last_or}
use Rattle.btree.specs.Decide.{cond}
use Rattle.btree.specs.Tree.{Rec}
use Rattle.btree.specs.Search.{place_of}
use Rattle.extent_keys.specs.Key.{asked}
use Rattle.catalog_keys.specs.Key.{Key}
use Rattle.catalog_entries.specs.declared.Entry.{Entry}
use Rattle.catalog_entries.specs.declared.Entry.TheVariants as kind
use Rattle.catalog_entries.specs.declared.File.{File}
use Rattle.catalog.specs.declared.answers.Answer.{Answer}
use Rattle.catalog.specs.declared.answers.Answer.TheVariants as answer
use Rattle.catalog.specs.declared.answers.Lookup.{Lookup}
use Rattle.catalog.specs.Answers.{entry_of, plain_answer}
use Rattle.catalog.specs.Reader.{leaf_list, search_path}
use Rattle.catalog.specs.Demands.{HasKey, SoundAnswer}
use Rattle.extents.specs.declared.floors.ExtentRecord.{ExtentRecord}
use Rattle.extents.specs.declared.floors.Floor.{Floor}
use Rattle.extents.specs.declared.floors.Floor.TheVariants as floor
use Rattle.extents.specs.Reader.{checked}
use Rattle.extents.specs.Floor.{record_of, floored, IsFloor, SoundFloor}
use Rattle.coverings.specs.declared.answers.Source.TheVariants.{Catalog}
use Rattle.coverings.specs.declared.answers.Covering.{Covering}
use Rattle.coverings.specs.declared.answers.Mapping.{Mapping}
use Rattle.coverings.specs.declared.answers.Mapping.TheVariants.{Refused}
use Rattle.extent_data.specs.Pairs.{block_count, counted_off}
use Rattle.coverings.specs.Answers.{mapped_to}
use Rattle.coverings.specs.Covered.{Covers, dec_covers, first_extents, first_covering, later_covering, no_file, uncovered, by_floor, in_file, in_entry}
use Rattle.blocks.specs.Blocks.{by_answer}
use Rattle.blocks.specs.Demands.{IsFile, First, Later, ByFirst, ByLater, Given}
use Rattle.extent_data.proofs.Counted.{counted-gives, gives-inside, gives-counted}
use Rattle.coverings.proofs.Order.{after-sound, by-floor, file-first, file-later}

module _ (cat ext : List ℕ) (k : Key) (fork block : ℕ) where
  -- under the key stands a record that is no file
  pub record NoFile (x : Rec) : Type 0 where
    pub listed : x ∈ leaf_list cat
    pub has_key : HasKey cat k x
    pub other : (f : File) → entry_of cat (place_of x) ≢ kind.File f

  abbrev pub Uncovered : Type 0
  Uncovered = ((x : Rec) × (f : File) × IsFile cat ext k fork block x f) × ((c : Covering) (v : ℕ) → Given cat ext k fork block c v → ⊥)

  abbrev pub NoKey : Type 0
  NoKey = (x : Rec) → x ∈ leaf_list cat → HasKey cat k x → ⊥

  abbrev pub absent_at : Mapping
  absent_at = Refused Catalog 12 (node_place (last_or 0 (search_path cat k)))

  -- each with its answer r
  abbrev pub Outcome : Mapping → Type 0
  Outcome r =
      ((c : Covering) × (v : ℕ) × (Given cat ext k fork block c v) × (r ≡ mapped_to c v))
      ⊎ ((Uncovered × (r ≡ uncovered))
      ⊎ (((x : Rec) × NoFile x × (r ≡ no_file))
      ⊎ (NoKey × (r ≡ absent_at))))

  module _ (lent : ℕ) (z : (checked ext lent).number ≡ 0) (floors : (file : ℕ) → SoundFloor ext (asked file fork block) (floored ext (asked file fork block) lent))
      (never : (file number : ℕ) (place : Place) → floored ext (asked file fork block) lent ≢ floor.Refused number place)
      (l : Lookup) (sound : SoundAnswer cat k l) where
    -- one record has the key, and is one file
    file-once : (x y : Rec) (f g : File) → IsFile cat ext k fork block x f → IsFile cat ext k fork block y g → (x ≡ y) × (f ≡ g)
    file-once x y f g a b =
        let e = sound.answer.once x y a.listed b.listed a.has_key b.has_key in
        let w : kind.File f ≡ kind.File g = sym a.is_entry ∙ ap (λ (o : Rec). entry_of cat (place_of o)) e ∙ b.is_entry in
        (e, cc)

    later-once : (f : File) (y w : Rec) (u v : ℕ) → Later cat ext k fork block f y u → Later cat ext k fork block f w v → (y ≡ w) × (u ≡ v)
    later-once f y w u v a b =
        let e = (floors f.file_id).once y w a.is_floor b.is_floor in
        (e, gives-counted _ _ u a.gives ∙ ap (λ (o : Rec). counted_off (record_of ext (place_of o)).extents (block - (record_of ext (place_of o)).start)) e ∙ sym (gives-counted _ _ v b.gives))

    -- at most one record covers the block, and gives one volume block
    pub given-once : (c d : Covering) (u v : ℕ) → Given cat ext k fork block c u → Given cat ext k fork block d v → (c ≡ d) × (u ≡ v)
    given-once c d u v (x, f, a) (y, g, b) =
        let (e, h) = file-once x y f g a.is_file b.is_file in
        go a.gives (subst (λ (o : Rec). ByFirst cat ext k fork block o f d v ⊎ ByLater cat ext k fork block f d v) (sym e) (subst (λ (o : File). ByFirst cat ext k fork block y o d v ⊎ ByLater cat ext k fork block o d v) (sym h) b.gives))
      where
        go : ByFirst cat ext k fork block x f c u ⊎ ByLater cat ext k fork block f c u → ByFirst cat ext k fork block x f d v ⊎ ByLater cat ext k fork block f d v → (c ≡ d) × (u ≡ v)
        go (inl (p, i)) (inl (q, j)) = (sym i ∙ j, gives-counted _ _ u p ∙ sym (gives-counted _ _ v q))
        go (inl (p, i)) (inr (n, w)) = absurd (n u p)
        go (inr (n, w)) (inl (q, j)) = absurd (n v q)
        go (inr (n, (o, p, i))) (inr (m, (w, q, j))) =
            let (s, t) = later-once f o w u v p q in
            (sym i ∙ ap (λ (r : Rec). later_covering ext (place_of r)) s ∙ j, t)

    module _ (x : Rec) (f : File) (is_file : IsFile cat ext k fork block x f) where
      -- the file's own extents do not reach the block
      module _ (past : block_count (first_extents f fork) ≤ block) where
        not_first : (w : ℕ) → First cat ext k fork block f w → ⊥
        not_first w g = let i = gives-inside _ _ w g in omega arith

        -- so no record covers it where no later one does
        none-given : ((y : Rec) (v : ℕ) → Later cat ext k fork block f y v → ⊥) → Uncovered
        none-given n = ((x, f, is_file), λ c v (y, g, b). go c v y g (file-once y x g f b.is_file is_file) b.gives)
          where
            go : (c : Covering) (v : ℕ) (y : Rec) (g : File) → (y ≡ x) × (g ≡ f) → ByFirst cat ext k fork block y g c v ⊎ ByLater cat ext k fork block g c v → ⊥
            go c v y g (e, h) (inl (q, i)) = not_first v (rw h at q)
            go c v y g (e, h) (inr (m, (w, q, i))) = n w v (rw h at q)

        -- by the record at p, which is y
        at-floor : (p : Place) (e : ExtentRecord) (y : Rec) → IsFloor ext (asked f.file_id fork block) y → place_of y ≡ p → record_of ext (place_of y) ≡ e
            → (d : Dec (Covers e f.file_id fork block)) → Outcome (cond d (mapped_to (later_covering ext p) (counted_off e.extents (block - e.start))) uncovered)
        at-floor p e y i o h (yes q) =
            let a = q.from in
            let b = q.past in
            let g = counted-gives e.extents (block - e.start) (omega arith) in
            let later : Later cat ext k fork block f y (counted_off e.extents (block - e.start)) = record { is_floor = i; same_file = rw h q.same_file; same_fork = rw h q.same_fork; from = rw h a; gives = rw h g } in
            inl (later_covering ext p, counted_off e.extents (block - e.start), (x, f, record { is_file = is_file; gives = inr (not_first, (y, later, ap (later_covering ext) o)) }), refl)
        at-floor p e y i o h (no n) = inr (inl (none-given other, refl))
          where
            other : (w : Rec) (v : ℕ) → Later cat ext k fork block f w v → ⊥
            other w v g =
                let s = (floors f.file_id).once w y g.is_floor i in
                let t = ap (λ (r : Rec). record_of ext (place_of r)) s ∙ h in
                let a = rw t at g.from in
                let b = gives-inside _ _ v (rw t at g.gives) in
                n (record { same_file = rw t at g.same_file; same_fork = rw t at g.same_fork; from = a; past = omega arith })

        by-later : (r : Floor) → floored ext (asked f.file_id fork block) lent ≡ r → Outcome (by_floor ext lent f.file_id fork block r)
        by-later (floor.At p e) w = let (y, i, o, h) = ((floors f.file_id).at p e).0 w in at-floor p e y i o (ap (record_of ext) o ∙ h) (dec_covers e f.file_id fork block)
        by-later floor.Nowhere w = inr (inl (none-given (λ y v g. (floors f.file_id).nowhere.0 w y g.is_floor.listed g.is_floor.not_above), refl))
        by-later (floor.Refused number place) w = absurd (never f.file_id number place w)

      by-file : Outcome (in_file ext lent cat fork block (place_of x) f)
      by-file = go (dec_lt block (block_count (first_extents f fork)))
        where
          go : Dec (block < block_count (first_extents f fork)) → Outcome (in_file ext lent cat fork block (place_of x) f)
          go (yes h) =
              inl (
                first_covering cat fork (place_of x),
                counted_off (first_extents f fork) block,
                (x, f, record { is_file = is_file; gives = inl (counted-gives (first_extents f fork) block h, refl) }),
                file-first ext lent cat fork block (place_of x) f h ∙ after-sound ext lent _ z,
              )
          go (no h) =
              let past : block_count (first_extents f fork) ≤ block = omega arith in
              subst Outcome (by-floor ext lent f.file_id fork block _ refl ∙ sym (file-later ext lent cat fork block (place_of x) f past)) (by-later past _ refl)

    module _ (x : Rec) (listed : x ∈ leaf_list cat) (has_key : HasKey cat k x) where
      other-entry : ((f : File) → entry_of cat (place_of x) ≢ kind.File f) → (r : Mapping) → r ≡ no_file → Outcome r
      other-entry n r e = inr (inr (inl (x, record { listed = listed; has_key = has_key; other = n }, e)))

      by-entry : (e : Entry) → entry_of cat (place_of x) ≡ e → Outcome (in_entry ext lent cat fork block (place_of x) e)
      by-entry (kind.File f) w = by-file x f (record { listed = listed; has_key = has_key; is_entry = w })
      by-entry (kind.Directory d) w = other-entry (λ f i. let y : ◌≡◌ {A = ℕ} 0 1 = cc in omega arith) _ (after-sound ext lent _ z)
      by-entry (kind.DirectoryThread t) w = other-entry (λ f i. let y : ◌≡◌ {A = ℕ} 0 1 = cc in omega arith) _ (after-sound ext lent _ z)
      by-entry (kind.FileThread t) w = other-entry (λ f i. let y : ◌≡◌ {A = ℕ} 0 1 = cc in omega arith) _ (after-sound ext lent _ z)

    -- one of the four, by what the catalog's lookup answers
    pub outcome : ((number : ℕ) (place : Place) → l.answer ≢ answer.Refused number place) → Outcome (by_answer cat ext lent fork block l.answer)
    outcome n = go l.answer refl
      where
        go : (a : Answer) → l.answer ≡ a → Outcome (by_answer cat ext lent fork block a)
        go (answer.Found p e) w =
            let (x, m, h, o) = (sound.answer.found p).0 (ap plain_answer w) in
            let i : entry_of cat (place_of x) ≡ e = ap (entry_of cat) o ∙ sym (sound.entry p e w) in
            subst (λ (q : Place). Outcome (in_entry ext lent cat fork block q e)) o (by-entry x m h e i)
        go (answer.Absent m) w =
            let v = ap plain_answer w in
            inr (inr (inr (sound.answer.absent.0 (m, v), after-sound ext lent _ z ∙ ap (λ (q : ℕ). Refused Catalog 12 (node_place q)) (sound.answer.last_node m v))))
        go (answer.Refused number place) w = absurd (n number place w)
