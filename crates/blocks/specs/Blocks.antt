-- W-207, in the order of its tests.
-- Assumes nothing.
use Rattle.std.proofs.Math.Logic.Dec
use Rattle.std.specs.Prelude.{List, ℕ, length}
use Rattle.std.proofs.Math.Decide.{dec_le}
use Rattle.btree.specs.Places.{node_place, image_start}
use Rattle.btree.specs.Decide.{cond, map_dec}
use Rattle.extent_keys.specs.Key.{Lawful, dec_lawful}
use Rattle.catalog_keys.specs.Key.{Key, IsShort, longest_name}
use Rattle.catalog.specs.declared.answers.Answer.{Answer}
use Rattle.catalog.specs.declared.answers.Answer.TheVariants as answer
use Rattle.catalog.specs.Reader.{looked_up}
use Rattle.coverings.specs.declared.answers.Source.TheVariants.{Catalog}
use Rattle.coverings.specs.declared.answers.Mapping.{Mapping}
use Rattle.coverings.specs.declared.answers.Mapping.TheVariants.{Refused}
use Rattle.coverings.specs.Covered.{after_extents, in_entry}

-- "11 (fork byte, or a name above 31 bytes)": what is asked for is neither
pub record Asked (k : Key) (fork : ℕ) : Type 0 where
  pub lawful : Lawful fork
  pub short : IsShort k

unfoldable pub dec_asked : (k : Key) (fork : ℕ) → Dec (Asked k fork)
dec_asked k fork = map_dec (λ (a, b). record { lawful = a; short = b }) (λ q. (q.lawful, q.short)) (Dec.and (dec_lawful fork) (dec_le (length k.name) longest_name))

module _ (cat ext : List ℕ) (lent fork block : ℕ) where
  -- "an absent key is 12", with the place of the catalog's lookup
  abbrev pub by_answer : Answer → Mapping
  by_answer (answer.Found p e) = in_entry ext lent cat fork block p e
  by_answer (answer.Absent n) = after_extents ext lent (Refused Catalog 12 (node_place n))
  by_answer (answer.Refused number place) = Refused Catalog number place

-- "After 11 the catalog is checked, then the extents image": in two images, with so many working bytes lent for each
unfoldable pub block_of : (cat ext : List ℕ) (cat_lent ext_lent : ℕ) → Key → (fork block : ℕ) → Mapping
block_of cat ext cat_lent ext_lent k fork block = cond (dec_asked k fork) (by_answer cat ext ext_lent fork block (looked_up cat k cat_lent).answer) (Refused Catalog 11 image_start)
