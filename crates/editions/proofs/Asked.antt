-- A key that an extents overflow file is asked for, and its number.
-- Assumes nothing.
use mathlib.Core.Path.{◌≡◌, sym}
use mathlib.Core.Bool.{Bool}
use mathlib.Core.List.{List}
use Prim.Native.Nat.{ℕ}
use Rattle.btree.specs.Decide.{says}
use Rattle.frame.specs.Form.{form_of}
use Rattle.extent_keys.specs.declared.key.Key.{Key}
use Rattle.extent_keys.specs.Key.{dec_lawful, key_at, rank}
use Rattle.image.proofs.Words.{Bytes}
use Rattle.extent_keys.proofs.Order.{InRange, key-range, rank_same}
use Rattle.reader.specs.Reader.{looked_up, looked_up_by, salvaged, salvaged_by}
use Rattle.reader.proofs.Demands.{Means, lookup-by}
use Rattle.reader.proofs.Matches.{salvage-by}
use Rattle.editions.specs.Asked.{of_key}

module _ (edition size : ℕ) (img : List ℕ) (k : Key) where
  -- it stands at a byte of the image exactly where its number does
  pub means : Bytes img → InRange k → Means (form_of edition size) img (of_key (form_of edition size) k)
  means b r l at = rank_same (key_at (form_of edition size) img at) k (key-range (form_of edition size) img b at) r

  -- what is answered as the code asks is what is answered of the key
  module _ (lawful : Bool) (number : ℕ) (l : lawful ≡ says (dec_lawful k.fork)) (n : number ≡ rank k) where
    pub asked-lookup : (lent : ℕ) → looked_up_by (form_of edition size) img lawful number lent ≡ looked_up (form_of edition size) img (of_key (form_of edition size) k) lent
    asked-lookup lent = rw (l, n) (sym (lookup-by (form_of edition size) img (of_key (form_of edition size) k) lent))

    pub asked-salvage : salvaged_by (form_of edition size) img lawful number ≡ salvaged (form_of edition size) img (of_key (form_of edition size) k)
    asked-salvage = rw (l, n) (sym (salvage-by (form_of edition size) img (of_key (form_of edition size) k)))
