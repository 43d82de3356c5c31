-- The keys of an HFS extents tree as one reader has them, by their eight bytes and by their packed numbers.
-- Assumes nothing.
use mathlib.Core.Path.{◌≡◌, ap, sym, ◌∙◌}
use mathlib.Core.List.{List}
use Prim.Native.Nat.{ℕ, ◌<◌}
use Rattle.image.specs.Bytes.{be64_at}
use Rattle.frame.specs.declared.form.Form.{Form}
use Rattle.extent_keys.specs.Key.{rank, hfs_key_at}
use Rattle.image.proofs.Words.{Bytes}
use Rattle.extent_keys.proofs.Order.{key-hfs}
use Rattle.formats.specs.Format.{rank_at}
use Rattle.formats.proofs.Ranks.{rank-extents}
use Rattle.fast_records.specs.Keyed.{packed_at}
use Rattle.fast_records.proofs.Numbers.{packed-below, raw_same}

module _ (form : Form) (t : form.tree ≡ 0) (e : form.edition ≡ 0) (img : List ℕ) where
  rank-hfs : (at : ℕ) → rank_at form img at ≡ rank (hfs_key_at img at)
  rank-hfs at = rank-extents form t img at ∙ ap rank (key-hfs form img at e)

  module _ (b : Bytes img) (a c : ℕ) where
    pub below-rank : packed_at img a < packed_at img c → rank_at form img a < rank_at form img c
    below-rank h = rw (rank-hfs a, rank-hfs c) (packed-below img b a c h)

    pub same_rank : be64_at img a ≡ be64_at img c → rank_at form img a ≡ rank_at form img c
    same_rank h = rank-hfs a ∙ raw_same img b a c h ∙ sym (rank-hfs c)
