-- "keys that weigh the same are the same key": what is answered of either is answered of the other.
-- Assumes nothing.
use mathlib.Core.Path.{◌≡◌, refl, sym, ap, ◌∙◌}
use mathlib.Core.List.{List, [], ◌∷◌}
use Prim.Native.Nat.{ℕ, suc}
use native.Mathlib.Decide.{dec_le}
use native.Mathlib.Omega.{arith}
use lib.ListN.{length}
use Rattle.btree.specs.Decide.{says}
use Rattle.frame.specs.Form.{catalog}
use Rattle.catalog_keys.specs.Key.{Key, longest_name, IsShort, weigh, rank}
use Rattle.catalog_keys.proofs.Order.{weigh-same}
use Rattle.reader.specs.Reader as reader
use Rattle.reader.proofs.Demands.{lookup-by, lookup-unlawful}
use Rattle.reader.proofs.Matches.{salvage-by, salvage-unlawful}
use Rattle.catalog.specs.Asked.{of_key}
use Rattle.catalog.specs.Answers.{answered, seen_as}
use Rattle.catalog.specs.Reader.{looked_up, salvaged}
use Rattle.catalog.proofs.Asked.{catalog-fair}

weigh-length : (name : List ℕ) → length (weigh name) ≡ length name
unfolding weigh
weigh-length [] = refl
weigh-length (x ∷ xs) = ap suc (weigh-length xs)

module _ (a b : Key) (p : a.parent ≡ b.parent) (w : weigh a.name ≡ weigh b.name) where
  same_length : length a.name ≡ length b.name
  same_length = sym (weigh-length a.name) ∙ ap length w ∙ weigh-length b.name

  same-lawful : says (dec_le (length a.name) longest_name) ≡ says (dec_le (length b.name) longest_name)
  same-lawful = rw same_length

  same_rank : IsShort a → rank a ≡ rank b
  same_rank h = (weigh-same a b h (let l = same_length in omega arith)).1 (p, w)

  module _ (img : List ℕ) where
    pub same-lookup : (lent : ℕ) → looked_up img a lent ≡ looked_up img b lent
    same-lookup lent = ap (answered img) (go (dec_le (length a.name) longest_name))
      where
        go : Dec (IsShort a) → reader.looked_up catalog img (of_key a) lent ≡ reader.looked_up catalog img (of_key b) lent
        go (yes h) = lookup-by catalog img (of_key a) lent ∙ rw (same-lawful, same_rank h) (sym (lookup-by catalog img (of_key b) lent))
        go (no h) =
            let f = catalog-fair catalog refl in
            lookup-unlawful catalog f img (of_key a) lent h ∙ sym (lookup-unlawful catalog f img (of_key b) lent (λ q. h (let l = same_length in omega arith)))

    pub same-salvage : salvaged img a ≡ salvaged img b
    same-salvage = ap (seen_as img) (go (dec_le (length a.name) longest_name))
      where
        go : Dec (IsShort a) → reader.salvaged catalog img (of_key a) ≡ reader.salvaged catalog img (of_key b)
        go (yes h) = salvage-by catalog img (of_key a) ∙ rw (same-lawful, same_rank h) (sym (salvage-by catalog img (of_key b)))
        go (no h) = salvage-unlawful catalog img (of_key a) h ∙ sym (salvage-unlawful catalog img (of_key b) (λ q. h (let l = same_length in omega arith)))
