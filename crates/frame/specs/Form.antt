-- The form of a tree file: its edition, which tree it is and the size of its nodes; which there are, and the sizes that follow.
-- Assumes nothing.
use Rattle.std.specs.Prelude.{◌≡◌, ◌⊎◌, Option, None, Some, List, [], ◌∷◌, ℕ, ◌-◌, ◌≤◌}
use Rattle.std.proofs.Math.Logic.Dec
use Rattle.std.proofs.Math.Decide.{ℕ_discrete}
use Rattle.btree.specs.Lists.{◌∈◌}
use Rattle.btree.specs.Decide.{if_zero, dec_or, dec_mem}
use Rattle.btree.specs.Layout.{Layout}
use Rattle.frame.specs.declared.form.Form.{Form}

-- "Edition 0 is HFS, 1 HFS Plus": a for HFS, else b
abbrev pub by_edition : {A : Type 0} → Form → A → A → A
by_edition form a b = if_zero form.edition a b

-- W-204: "The caller says which is meant", the extents overflow file or the catalog: a for the first, else b
abbrev pub by_tree : {A : Type 0} → Form → A → A → A
by_tree form a b = if_zero form.tree a b

-- W-211: "HFS Plus extents trees": "The caller says which edition and node size are meant"
abbrev pub form_of : ℕ → ℕ → Form
form_of edition size = record { edition = edition; tree = 0; size = size }

-- "Nodes are 512 bytes"
abbrev pub hfs : Form
hfs = form_of 0 512

-- W-204: "the catalog file of the same book"
abbrev pub catalog : Form
catalog = record { edition = 0; tree = 1; size = 512 }

-- W-211: "node sizes of 512 to 32,768 in powers of two"
abbrev pub plus_sizes : List ℕ
plus_sizes = 512 ∷ 1024 ∷ 2048 ∷ 4096 ∷ 8192 ∷ 16384 ∷ 32768 ∷ []

-- what is not "a size not listed, or not 512 for HFS", nor an edition that is neither
abbrev pub Listed : Form → Type 0
Listed form = ((form.edition ≡ 0) × (form.size ≡ 512)) ⊎ ((form.edition ≡ 1) × (form.size ∈ plus_sizes))

unfoldable pub dec_listed : (form : Form) → Dec (Listed form)
dec_listed form =
    dec_or
    (Dec.and (ℕ_discrete form.edition 0) (ℕ_discrete form.size 512))
    (Dec.and (ℕ_discrete form.edition 1) (dec_mem form.size plus_sizes))

-- the form of these numbers where they are listed, and none where they are not
abbrev pub OfNumbers : Form → Option Form → Type 0
OfNumbers form None = Listed form → ⊥
OfNumbers form (Some f) = Listed form × (f ≡ form)

module _ (form : Form) where
  -- "key length is 7"; W-211: "10 in the header too"; W-204: "a catalog's header has key length 37"
  unfoldable pub key_length : ℕ
  key_length = by_tree form (by_edition form 7 10) 37

  -- a key has "Eight bytes"; W-211: "a 12-byte key"; W-204: "index keys stored at full length 37", after the length byte
  unfoldable pub key_size : ℕ
  key_size = by_tree form (by_edition form 8 12) 38

  -- W-211: "Map records have the node size less 256 bytes in the header", 256 in HFS
  abbrev pub header_map_of : ℕ
  header_map_of = form.size - 256

  -- "It carries 494 bytes"; W-211: the node size "less 20 in a map node"
  unfoldable pub node_map_of : ℕ
  node_map_of = form.size - by_edition form 18 20

  -- "depth is 0 to 8"; W-211: "The limit is 65,536 times the node size in bytes"
  abbrev pub layout_of : Layout
  layout_of = record { node_size = form.size; header_map = header_map_of; node_map = node_map_of; max_nodes = 65536; max_depth = 8 }

  -- what code goes by of the size of a form that is listed
  pub record Fair : Type 0 where
    pub least : 512 ≤ form.size
    pub most : form.size ≤ 32768
