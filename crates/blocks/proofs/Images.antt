-- What block mapping says of any two images: refusals in their order, and of two sound ones what the leaf records say.
-- Assumes nothing.
use mathlib.Core.Path.{◌≡◌, refl, sym, ap, subst, ◌∙◌}
use mathlib.Core.Logic.{◌≢◌, ⊎_elim}
use mathlib.Core.List.{List}
use Prim.Native.Nat.{ℕ, ◌+◌, ◌≤◌, ◌<◌}
use native.Mathlib.Omega.{arith}
use native.Mathlib.Decide.{ℕ_discrete}
use lib.ListN.{length}
use Rattle.btree.specs.declared.Answer.TheVariants as tree_answer
use Rattle.btree.specs.declared.Place.{Place}
use Rattle.btree.specs.Tree.{Rec}
use Rattle.btree.specs.Search.{place_of}
use Rattle.extent_keys.specs.Key.{asked}
use Rattle.image.proofs.Words.{Bytes}
use Rattle.extent_keys.proofs.Order.{InRange}
use Rattle.catalog_keys.specs.Key.{Key}
use Rattle.catalog_entries.specs.declared.Entry.{Entry}
use Rattle.catalog_entries.specs.declared.Entry.TheVariants as kind
use Rattle.catalog_entries.specs.declared.File.{File}
use Rattle.catalog.specs.declared.answers.Answer.{Answer}
use Rattle.catalog.specs.declared.answers.Answer.TheVariants as answer
use Rattle.catalog.specs.declared.answers.Lookup.{Lookup}
use Rattle.catalog.specs.Answers.{plain_answer}
use Rattle.catalog.specs.Reader as catalog
use Rattle.catalog.specs.Demands.{SoundAnswer}
use Rattle.catalog.specs.Types.{FourTypes}
use Rattle.catalog.proofs.Laws as catalog_laws
use Rattle.extents.specs.declared.floors.Floor.TheVariants as floor
use Rattle.extents.specs.Reader as extents
use Rattle.extents.specs.Floor.{record_of, floored, SoundFloor}
use Rattle.extents.proofs.Highest.{floor-says}
use Rattle.extents.proofs.Laws as extents_laws
use Rattle.coverings.specs.declared.answers.Source.{Source}
use Rattle.coverings.specs.declared.answers.Source.TheVariants.{Catalog, Extents}
use Rattle.coverings.specs.declared.answers.Covering.{Covering}
use Rattle.coverings.specs.declared.answers.Mapping.{Mapping}
use Rattle.coverings.specs.declared.answers.Mapping.TheVariants.{Mapped}
use Rattle.coverings.specs.Covered.{first_start, refused_by}
use Rattle.blocks.specs.Blocks.{Asked, dec_asked, block_of}
use Rattle.blocks.specs.Demands.{IsFile, ByFirst, ByLater, Given, image_of, SoundBlock, BlockSays}
use Rattle.coverings.proofs.Order.{first_small}
use Rattle.blocks.proofs.Order.{block-unasked, block-asked, block_refused, answer-refused}
use Rattle.blocks.proofs.Outcome.{Outcome, outcome, given-once}
use Rattle.blocks.proofs.Says.{sound-block}

-- an answer that is found, without its entry and with it
found-with : (a : Answer) (p : Place) → plain_answer a ≡ tree_answer.Found p → (e : Entry) × (a ≡ answer.Found p e)
found-with (answer.Found q e) p w = (e, let i : q ≡ p = cc in ap (λ (o : Place). answer.Found o e) i)
found-with (answer.Absent n) p w = let z : ◌≡◌ {A = ℕ} 0 1 = cc in absurd (omega arith)
found-with (answer.Refused n o) p w = let z : ◌≡◌ {A = ℕ} 0 1 = cc in absurd (omega arith)

-- the data of a file record has 102 bytes
file-size : (img : List ℕ) (p : Place) (e : Entry) (f : File) → e ≡ kind.File f → FourTypes img p e → (catalog.data_part img p).size ≡ 102
file-size img p e f w =
    ⊎_elim (λ t. let i = t.is_entry in let z : ◌≡◌ {A = ℕ} 0 1 = cc in absurd (omega arith))
    (⊎_elim (λ t. t.is_size)
    (⊎_elim (λ t. let i = t.is_entry in let z : ◌≡◌ {A = ℕ} 0 1 = cc in absurd (omega arith))
    (λ t. let i = t.is_entry in let z : ◌≡◌ {A = ℕ} 0 1 = cc in absurd (omega arith))))

module _ (cat ext : List ℕ) (bytes : Bytes ext) (k : Key) (fork block : ℕ) (few : fork < 256) (short : block < 65536) (cat_lent ext_lent : ℕ) where
  abbrev said : Mapping
  said = block_of cat ext cat_lent ext_lent k fork block

  range : (file : ℕ) → InRange (asked file fork block)
  range file = record { fork = few; start = omega arith }

  module _ (a : Asked k fork) (cz : (catalog.checked cat cat_lent).number ≡ 0) where
    abbrev looked : Lookup
    looked = catalog.looked_up cat k cat_lent

    catalog-answer : SoundAnswer cat k looked
    catalog-answer = let (s, e) = (catalog_laws.checked-says cat cat_lent).sound.0 cz in (catalog_laws.looked-says cat cat_lent k).of_sound s a.short e

    never : (number : ℕ) (place : Place) → looked.answer ≢ answer.Refused number place
    never = catalog_laws.lookup-never cat cat_lent k a.short cz

    refused-extents : (extents.checked ext ext_lent).number ≢ 0 → said ≡ refused_by Extents (extents.checked ext ext_lent)
    refused-extents z = block-asked cat ext cat_lent ext_lent k fork block a ∙ answer-refused cat ext ext_lent fork block a.lawful z looked.answer never

    module _ (ez : (extents.checked ext ext_lent).number ≡ 0) where
      floors : (file : ℕ) → SoundFloor ext (asked file fork block) (floored ext (asked file fork block) ext_lent)
      floors file = let (s, e) = (extents_laws.checked-says ext ext_lent).sound.0 ez in (floor-says ext (asked file fork block) ext_lent bytes (range file)).of_sound s a.lawful e

      unrefused : (file number : ℕ) (place : Place) → floored ext (asked file fork block) ext_lent ≢ floor.Refused number place
      unrefused file = extents_laws.floored-never ext ext_lent (asked file fork block) a.lawful ez

      sound : SoundBlock cat ext k fork block said
      sound =
          sound-block cat ext k fork block said
          (given-once cat ext k fork block ext_lent ez floors unrefused looked catalog-answer)
          catalog-answer.answer.once
          (subst (Outcome cat ext k fork block) (sym (block-asked cat ext cat_lent ext_lent k fork block a)) (outcome cat ext k fork block ext_lent ez floors unrefused looked catalog-answer never))

      first-inside : (x : Rec) (f : File) → IsFile cat ext k fork block x f → (catalog.data_part cat (place_of x)).at + first_start fork + 12 ≤ length cat
      first-inside x f i =
          let (e, w) = found-with looked.answer (place_of x) ((catalog-answer.answer.found (place_of x)).1 (x, i.listed, i.has_key, refl)) in
          let n = catalog-answer.inside (place_of x) e w in
          let h = file-size cat (place_of x) e f (catalog-answer.entry (place_of x) e w ∙ i.is_entry) (catalog-answer.types (place_of x) e w) in
          let m = first_small fork in
          omega arith

      given_inside : (c : Covering) (v : ℕ) → Given cat ext k fork block c v → c.start + 12 ≤ length (image_of cat ext c.source)
      given_inside c v (x, f, g) = ⊎_elim first later g.gives
        where
          first : ByFirst cat ext k fork block x f c v → c.start + 12 ≤ length (image_of cat ext c.source)
          first (q, e) = subst (λ (o : Covering). o.start + 12 ≤ length (image_of cat ext o.source)) e (first-inside x f g.is_file)

          later : ByLater cat ext k fork block f c v → c.start + 12 ≤ length (image_of cat ext c.source)
          later (n, (y, q, e)) =
              let s = floors f.file_id in
              subst (λ (o : Covering). o.start + 12 ≤ length (image_of cat ext o.source)) e
              (s.inside (place_of y) (record_of ext (place_of y)) ((s.at (place_of y) (record_of ext (place_of y))).1 (y, q.is_floor, refl, refl)))

      -- "An image is 1 to 65,536 whole nodes" of 512 bytes
      image-small : (source : Source) → length (image_of cat ext source) ≤ 33554432
      image-small Catalog = ((catalog_laws.checked-says cat cat_lent).sound.0 cz).0.lengths.few
      image-small Extents = ((extents_laws.checked-says ext ext_lent).sound.0 ez).0.lengths.few

      given-small : (c : Covering) (v : ℕ) → Given cat ext k fork block c v → c.start < 33554432
      given-small c v g = let a = given_inside c v g in let b = image-small c.source in omega arith

  -- what is mapped is mapped in sound images
  mapped-given : (c : Covering) (v : ℕ) → said ≡ Mapped c v → (c.start + 12 ≤ length (image_of cat ext c.source)) × (c.start < 33554432)
  mapped-given c v e = go (dec_asked k fork) (ℕ_discrete (catalog.checked cat cat_lent).number 0) (ℕ_discrete (extents.checked ext ext_lent).number 0)
    where
      go : Dec (Asked k fork) → Dec ((catalog.checked cat cat_lent).number ≡ 0) → Dec ((extents.checked ext ext_lent).number ≡ 0)
          → (c.start + 12 ≤ length (image_of cat ext c.source)) × (c.start < 33554432)
      go (no a) d q = let w = block-unasked cat ext cat_lent ext_lent k fork block a in let z : ◌≡◌ {A = ℕ} 0 1 = cc in absurd (omega arith)
      go (yes a) (no d) q = let w = block_refused cat ext cat_lent ext_lent k fork block a d in let z : ◌≡◌ {A = ℕ} 0 1 = cc in absurd (omega arith)
      go (yes a) (yes d) (no q) = let w = refused-extents a d q in let z : ◌≡◌ {A = ℕ} 0 1 = cc in absurd (omega arith)
      go (yes a) (yes d) (yes q) = let (g, _) = ((sound a d q).mapped c v).0 e in (given_inside a d q c v g, given-small a d q c v g)

  pub block-says : BlockSays cat ext k fork block cat_lent ext_lent said
  block-says =
      record {
        of_unasked = block-unasked cat ext cat_lent ext_lent k fork block;
        of_catalog = block_refused cat ext cat_lent ext_lent k fork block;
        of_extents = refused-extents;
        of_sound = λ a cs ce es ee. sound a ((catalog_laws.checked-says cat cat_lent).sound.1 (cs, ce)) ((extents_laws.checked-says ext ext_lent).sound.1 (es, ee));
        inside = λ c v e. (mapped-given c v e).0;
        small = λ c v e. (mapped-given c v e).1;
      }
