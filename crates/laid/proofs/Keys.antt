-- Keys that stand in equal bytes are equal, and keep the same law.
-- Assumes nothing.
use mathlib.Core.Path.{◌≡◌, ◌∙◌}
use mathlib.Core.List.{List}
use Prim.Native.Nat.{ℕ, ◌+◌, ◌≤◌}
use native.Mathlib.Omega.{arith}
use Rattle.frame.specs.Form.{hfs}
use Rattle.extent_keys.specs.Key.{rank, key_at}
use Rattle.extent_nodes.specs.Records.{length_at, KeyLaw}
use Rattle.formats.specs.Format.{rank_at}
use Rattle.laid.proofs.Bytes.{Same, same-16, same-32}

module _ {xs ys : List ℕ} {a b n : ℕ} (s : Same xs a ys b n) where
  pub same_key : 8 ≤ n → rank_at hfs xs a ≡ rank_at hfs ys b
  unfolding rank key_at
  same_key l = rw (same-32 s 2 (omega arith), s.at 1 (omega arith), same-16 s 6 (omega arith))

  pub same-law : 8 ≤ n → KeyLaw hfs ys b → KeyLaw hfs xs a
  unfolding length_at key_at
  same-law l k =
      let e : a + 0 ≡ a = omega arith in
      let f : b + 0 ≡ b = omega arith in
      record { length = rw (e, f) at (s.at 0 (omega arith)) ∙ k.length; fork = rw (s.at 1 (omega arith)) k.fork }
