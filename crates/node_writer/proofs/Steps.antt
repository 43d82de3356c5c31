-- The turns of the loops: what is left is one part and what is left after it.
-- Assumes nothing.
use mathlib.Core.Path.{◌≡◌, refl, ◌∙◌}
use mathlib.Core.List.{List, [], ◌++◌}
use Prim.Native.Nat.{ℕ, zero, suc, ◌+◌, ◌-◌, ◌*◌, ◌≤◌, ◌<◌}
use native.Mathlib.Omega.{arith}
use native.Mathlib.Nat.{suc-mul}
use lib.ListN.{length, take, drop, replicate, length-append, length-drop, length-replicate}
use lib.Seq.{length-take-le}
use Rattle.put.specs.Put.{be16, be32}
use Rattle.laid.specs.Laid.{described, offsets}
use Rattle.laid.proofs.Nodes.{described-length, offsets-length}
use Rattle.node_writer.specs.Parts.{framed, indexed, Inside, index_node}

pub offsets-on : (s k : ℕ) → 0 < k → offsets s k ≡ be16 (14 + k * s) ++ offsets s (k - 1)
unfolding offsets
offsets-on s zero l = absurd (omega arith)
offsets-on s (suc k) l = let z : suc k - 1 ≡ k = omega arith in rw z

pub offsets-end : (s k : ℕ) → k ≤ 0 → offsets s k ≡ be16 (14 + k * s)
unfolding offsets
offsets-end s k l = let z : k ≡ 0 = omega arith in let y : 14 + 0 * s ≡ 14 = omega arith in rw (z, y)

pub offsets-long : (s c : ℕ) → length (offsets s c) ≡ 2 * c + 2
offsets-long s c = offsets-length s c ∙ omega arith

pub step-on : (from i step : ℕ) → from + i * step + step ≡ from + (i + 1) * step
step-on from i step = let e = suc-mul i step in let z : i + 1 ≡ suc i = omega arith in rw z (omega arith)

-- the keys of an index node
pub indexed-on : (c i from step child : ℕ) (row : List ℕ) → i < c
    → indexed (c - i) (from + i * step) step (child + i) row ≡ (take 8 (drop (from + i * step) row) ++ be32 (child + i)) ++ indexed (c - (i + 1)) (from + (i + 1) * step) step (child + (i + 1)) row
unfolding indexed
indexed-on c i from step child row l =
    let z : c - i ≡ suc (c - (i + 1)) = omega arith in
    let y : child + (i + 1) ≡ child + i + 1 = omega arith in
    rw (z, y, ← step-on from i step)

pub indexed-end : (c i from step child : ℕ) (row : List ℕ) → c ≤ i → indexed (c - i) from step child row ≡ []
unfolding indexed
indexed-end c i from step child row l = let z : c - i ≡ 0 = omega arith in rw z

pub indexed-long : (c from step child : ℕ) (row : List ℕ) → ((i : ℕ) → i < c → from + i * step + 8 ≤ length row) → length (indexed c from step child row) ≡ 12 * c
unfolding indexed
indexed-long zero from step child row h = refl
indexed-long (suc c) from step child row h =
    let a = h 0 (omega arith) in
    let l = length-take-le 8 (drop from row) (rw (length-drop from row) (omega arith)) in
    let k = indexed-long c (from + step) step (child + 1) row (λ i u. let b = h (i + 1) (omega arith) in let e = step-on from i step in omega arith) in
    length-append (take 8 (drop from row) ++ be32 child) (indexed c (from + step) step (child + 1) row)
    ∙ rw (length-append (take 8 (drop from row)) (be32 child), l, k) (omega arith)

framed-long : (size c : ℕ) → c * size + 2 * suc c ≤ 498 → length (framed size c) ≡ 498 - c * size
unfolding framed
framed-long size c l =
    length-append (replicate (498 - (c * size + 2 * suc c)) 0) (offsets size c)
    ∙ rw (length-replicate {A = ℕ} (498 - (c * size + 2 * suc c)) 0, offsets-length size c) (omega arith)

-- an index node has 512 bytes
pub index-long : (f b level c from step child : ℕ) (row : List ℕ) → c ≤ 35 → Inside c from step (length row) → length (index_node f b level c from step child row) ≡ 512
unfolding index_node
index-long f b level c from step child row l i =
    length-append (described f b 0 level c) (indexed c from step child row ++ framed 12 c)
    ∙ rw (
      described-length f b 0 level c,
      length-append (indexed c from step child row) (framed 12 c),
      indexed-long c from step child row i.reach,
      framed-long 12 c (omega arith),
    ) (omega arith)
