-- How many keys a lookup compares in an HFS image, as W-202 words it: at most six in a node.
-- Assumes nothing.
use mathlib.Core.Path.{refl}
use mathlib.Core.List.{List}
use Prim.Native.Nat.{ℕ, ◌*◌, ◌^◌, ◌≤◌, ◌<◌}
use native.Mathlib.Nat.{mul-le-mul_left}
use native.Mathlib.Omega.{arith}
use lib.ListN.{length}
use Rattle.btree.specs.Lists.{◌∈◌}
use Rattle.btree.specs.Tree.{OnLevel}
use Rattle.btree.specs.Header.{view_of}
use Rattle.btree.specs.Search.{path_of, halved_in, compared_of}
use Rattle.btree.proofs.Paths.{path-on}
use Rattle.btree.proofs.Halving.{compared-few}
use Rattle.frame.specs.Form.{hfs}
use Rattle.frame.specs.Kinds.{kind_on, level_of}
use Rattle.extent_nodes.specs.Records.{record_size, Holds}
use Rattle.frame.proofs.Forms.{key-some}
use Rattle.extent_nodes.proofs.Sizes.{size-some}
use Rattle.reader.proofs.Compared.{digits_in}
use Rattle.extents.specs.Reader.{view, Sound}

-- "a leaf holds 1 to 22 and an index node 1 to 35": no more, as a record has 12 bytes or more
holds-few : (kind c : ℕ) → Holds hfs kind c → c ≤ 35
holds-few kind c h =
    let a = size-some hfs kind in
    let b = key-some hfs in
    let m : c * 12 ≤ c * record_size hfs kind = mul-le-mul_left c (let e : 12 ≤ record_size hfs kind = omega arith in e) in
    omega arith

module _ (img : List ℕ) (s : Sound img) where
  -- which is less than 2 to the power of six
  node-few : (d n : ℕ) → OnLevel (view img) d n → (view img).count n < 2 ^ 6
  unfolding view_of
  node-few d n o = let f = holds-few (kind_on (level_of hfs img n)) _ ((s.nodes d n o).records.extents refl).few in omega arith

  -- "at most six in a 512-byte node"
  pub six-in-path : (k n : ℕ) → n ∈ path_of (view img) k → (halved_in (view img) k n).compared ≤ 6
  six-in-path k n m = let (d, o) = path-on (view img) k n m in digits_in hfs img k n 6 (node-few d n o)

  pub six-each : (k : ℕ) → compared_of (view img) k ≤ 6 * length (path_of (view img) k)
  six-each k = compared-few (view img) k 6 node-few
