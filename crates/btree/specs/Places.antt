-- W-208: "A place becomes a node and a byte offset in it."
-- Assumes nothing.
use Rattle.std.specs.Prelude.{ℕ, ◌+◌, ◌*◌}
use Rattle.btree.specs.declared.Place.{Place}
use Rattle.btree.specs.Layout.{Layout}
use Rattle.btree.specs.Tree.{View}

-- a byte of a node
abbrev pub byte_of : ℕ → ℕ → Place
byte_of n offset = record { node = n; offset = offset }

-- "All else keeps its node, with offset 0."
abbrev pub node_place : ℕ → Place
node_place n = byte_of n 0

-- where the table has no node to name: "0, 0"
abbrev pub image_start : Place
image_start = node_place 0

-- the header's root field
abbrev pub root_field : Place
root_field = byte_of 0 16

-- "For 7 the link": "forward link (4), back link (4)" are the first bytes of a node
abbrev pub forward_link : ℕ → Place
forward_link n = byte_of n 0

abbrev pub back_link : ℕ → Place
back_link n = byte_of n 4

-- where record i of the node n starts, and where the number of its child stands
abbrev pub record_place : View → ℕ → ℕ → Place
record_place v n i = byte_of n (v.record_offset n i)

abbrev pub child_place : View → ℕ → ℕ → Place
child_place v n i = byte_of n (v.child_offset n i)

-- where a place is in the image
abbrev pub image_offset : Layout → Place → ℕ
image_offset l p = p.node * l.node_size + p.offset
