-- W-209: the numbers of the tree laid down for r records: "leaves of 22 records, the last with the rest, then index levels of 35 likewise, root last".
-- Heights count from the leaves, which are at height 0: height h is W-201's level h + 1. What a height holds are its entries: records at height 0, and above
-- that one for each node of the height below.
-- Assumes nothing.
use Rattle.std.specs.Prelude.{List, ℕ, zero, suc, ◌+◌, ◌-◌, ◌*◌, ◌/◌, min, length}
use Rattle.std.proofs.Math.Decide.{ℕ_discrete, dec_le}
use Rattle.btree.specs.Decide.{cond}

-- "a lent row of 20-byte leaf records": how many whole ones it has
abbrev pub records_in : List ℕ → ℕ
records_in row = length row / 20

-- "leaves of 22 records", "index levels of 35"
unfoldable pub fanout : ℕ → ℕ
fanout zero = 22
fanout (suc h) = 35

-- the first entry of node k of a height
unfoldable pub first_in : ℕ → ℕ → ℕ
first_in zero k = k * 22
first_in (suc h) k = k * 35

-- the nodes that e entries take
unfoldable pub groups : ℕ → ℕ → ℕ
groups zero e = (e + 21) / 22
groups (suc h) e = (e + 34) / 35

-- the record of the row that is the first under entry q of a height
unfoldable pub record_under : ℕ → ℕ → ℕ
record_under zero q = q
record_under (suc h) q = record_under h (first_in h q)

-- how many entries a height has, and how many nodes
unfoldable pub entries_at : ℕ → ℕ → ℕ
entries_at r zero = r
entries_at r (suc h) = groups h (entries_at r h)

abbrev pub nodes_at : ℕ → ℕ → ℕ
nodes_at r h = entries_at r (suc h)

-- the entries of node k: as many as a node takes, "the last with the rest"
unfoldable pub held : ℕ → ℕ → ℕ → ℕ
held r h k = min (fanout h) (entries_at r h - first_in h k)

-- the number of the first node of a height, after the header and m map nodes
unfoldable pub start : ℕ → ℕ → ℕ → ℕ
start m r zero = 1 + m
start m r (suc h) = start m r h + nodes_at r h

-- the levels above one of n nodes: none above a single node, "root last"; at most f
unfoldable pub levels_above : ℕ → ℕ → ℕ
levels_above zero n = 0
levels_above (suc f) n = cond (dec_le n 1) 0 (suc (levels_above f ((n + 34) / 35)))

-- the levels of the tree, none for an empty row; at most the eight that a header may name, which are enough for every row that an image has room for
unfoldable pub levels : ℕ → ℕ
levels r = cond (ℕ_discrete r 0) 0 (suc (levels_above 7 ((r + 21) / 22)))
