-- A record that is found or seen is of one of the four kinds, and its part has the bytes of that kind.
-- Assumes nothing.
use mathlib.Core.Path.{◌≡◌, refl, sym, ap, subst, ◌∙◌}
use mathlib.Core.Logic.{inl, inr}
use mathlib.Core.List.{List}
use Prim.Native.Nat.{ℕ, ◌*◌, ◌≤◌, ◌<◌}
use native.Mathlib.Decide.{ℕ_discrete, dec_le}
use native.Mathlib.Omega.{arith}
use lib.ListN.{length}
use Rattle.btree.specs.declared.Place.{Place}
use Rattle.btree.specs.declared.Salvage.TheVariants as tree_salvage
use Rattle.btree.specs.Places.{image_offset, record_place}
use Rattle.btree.specs.Lists.{◌∈◌}
use Rattle.btree.specs.Tree.{Rec}
use Rattle.btree.specs.Search.{place_of}
use Rattle.btree.specs.Header.{count_of, view_of}
use Rattle.btree.proofs.Paths.{leaf-stands}
use Rattle.frame.specs.Form.{catalog, layout_of}
use Rattle.frame.specs.Kinds.{leaf_kind}
use Rattle.catalog_keys.specs.Key.{Key, longest_name, IsShort}
use Rattle.catalog_nodes.specs.Node.{type_at, size_of_type}
use Rattle.catalog_entries.specs.declared.Entry.{Entry}
use Rattle.catalog_entries.proofs.Types.{of-directory, of-file, of-directory-thread, of-file-thread}
use Rattle.formats.specs.Format.{Records}
use Rattle.formats.proofs.Starts.{start-catalog}
use Rattle.reader.specs.Reader as reader
use Rattle.reader.specs.Salvage.{SalvageSays}
use Rattle.reader.proofs.Matches.{salvage-says}
use Rattle.reader.proofs.Parts.{leaf-records}
use Rattle.catalog.specs.declared.answers.Salvage.TheVariants.{Seen}
use Rattle.catalog.specs.Asked.{of_key}
use Rattle.catalog.specs.Answers.{entry_of, plain_seen}
use Rattle.catalog.specs.Reader.{view, Sound, leaf_list, salvaged}
use Rattle.catalog.specs.Types.{FourTypes}
use Rattle.catalog.proofs.Asked.{catalog-fair, means}
use Rattle.catalog.proofs.Entries.{plain-seen, seen_entry}

module _ (img : List ℕ) where
  -- of a record whose type is one of the four
  four : (p : Place) → let t = type_at img (image_offset (layout_of catalog) p) in 1 ≤ t → t ≤ 4 → FourTypes img p (entry_of img p)
  unfolding size_of_type
  four p l m = go (ℕ_discrete t 1) (ℕ_discrete t 2) (ℕ_discrete t 3)
    where
      at : ℕ
      at = image_offset (layout_of catalog) p

      t : ℕ
      t = type_at img at

      size : (n : ℕ) → t ≡ n → size_of_type t ≡ size_of_type n
      size n e = ap size_of_type e

      go : Dec (t ≡ 1) → Dec (t ≡ 2) → Dec (t ≡ 3) → FourTypes img p (entry_of img p)
      go (yes a) b c = inl (record { is_type = a; is_entry = of-directory img at a; is_size = size 1 a })
      go (no a) (yes b) c = inr (inl (record { is_type = b; is_entry = of-file img at a b; is_size = size 2 b }))
      go (no a) (no b) (yes c) = inr (inr (inl (record { is_type = c; is_entry = of-directory-thread img at a b c; is_size = size 3 c })))
      go (no a) (no b) (no c) = let d : t ≡ 4 = omega arith in inr (inr (inr (record { is_type = d; is_entry = of-file-thread img at a b c; is_size = size 4 d })))

  -- of every record of a leaf that is laid out right
  pub record-type : (n i : ℕ) → Records catalog img leaf_kind n → i < count_of (layout_of catalog) img n → FourTypes img (record_place (view img) n i) (entry_of img (record_place (view img) n i))
  unfolding view_of
  record-type n i r u =
      let (l, m) = ((r.catalog (omega arith)).right i u).is_type refl in
      let s = start-catalog catalog img n i (λ z. omega arith) in
      four (record_place (view img) n i) (rw s l) (rw s m)

  -- so of every leaf record of a sound image
  pub listed-type : Sound img → (x : Rec) → x ∈ leaf_list img → FourTypes img (place_of x) (entry_of img (place_of x))
  unfolding view_of
  listed-type s x m =
      let q = leaf-stands (view img) s.tree s.totals x m in
      rw q.is_offset at (record-type x.node x.number (leaf-records catalog (catalog-fair catalog refl) img s x.node q.leaf).0 q.inside)

  module _ (k : Key) (p : Place) (e : Entry) where
    -- "Seen likewise."
    pub seen-type : salvaged img k ≡ Seen p e → FourTypes img p e
    unfolding view_of
    seen-type w = go (dec_le (length k.name) longest_name) (dec_le (length img) (65536 * 512))
      where
        a : reader.salvaged catalog img (of_key k) ≡ tree_salvage.Seen p
        a = sym (plain-seen img _) ∙ ap plain_seen w

        told : SalvageSays catalog img (of_key k) (reader.salvaged catalog img (of_key k))
        told = salvage-says catalog img (of_key k) (means img k)

        go : Dec (IsShort k) → Dec (length img ≤ 65536 * 512) → FourTypes img p e
        go (no h) q = let x = told.unlawful h in let z : ◌≡◌ {A = ℕ} 0 1 = cc in absurd (omega arith)
        go (yes h) (no q) = let x = told.long h (omega arith) in let z : ◌≡◌ {A = ℕ} 0 1 = cc in absurd (omega arith)
        go (yes h) (yes q) =
            let (n, i, f, o) = (told.seen (record { lawful = h; few = q }) p).0 a in
            let r = record-type n i f.here.counts.records f.here.inside in
            rw (seen_entry img p e (reader.salvaged catalog img (of_key k)) w) (subst (λ (x : Place). FourTypes img x (entry_of img x)) o r)
