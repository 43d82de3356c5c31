-- How many keys a lookup compares in a catalog: at most four in a node.
-- Assumes nothing.
use mathlib.Core.List.{List}
use Prim.Native.Nat.{ℕ, ◌*◌, ◌^◌, ◌≤◌, ◌<◌}
use native.Mathlib.Omega.{arith}
use lib.ListN.{length}
use Rattle.btree.specs.Lists.{◌∈◌}
use Rattle.btree.specs.Tree.{OnLevel}
use Rattle.btree.specs.Header.{view_of}
use Rattle.btree.specs.Search.{path_of, halved_in, compared_of}
use Rattle.btree.proofs.Paths.{path-on}
use Rattle.btree.proofs.Halving.{compared-few}
use Rattle.frame.specs.Form.{catalog}
use Rattle.frame.specs.Kinds.{kind_on, level_of}
use Rattle.catalog_nodes.proofs.Sizes.{max-most}
use Rattle.reader.proofs.Compared.{digits_in}
use Rattle.catalog.specs.Reader.{view, Sound}

module _ (img : List ℕ) (s : Sound img) where
  -- "A leaf holds 1 to 8 records, an index node 1 to 11": less than 2 to the power of four
  node-few : (d n : ℕ) → OnLevel (view img) d n → (view img).count n < 2 ^ 4
  unfolding view_of
  node-few d n o =
      let f = ((s.nodes d n o).records.catalog (omega arith)).few in
      let m = max-most (kind_on (level_of catalog img n)) in
      omega arith

  pub four-in-path : (k n : ℕ) → n ∈ path_of (view img) k → (halved_in (view img) k n).compared ≤ 4
  four-in-path k n m = let (d, o) = path-on (view img) k n m in digits_in catalog img k n 4 (node-few d n o)

  pub four-each : (k : ℕ) → compared_of (view img) k ≤ 4 * length (path_of (view img) k)
  four-each k = compared-few (view img) k 4 node-few
