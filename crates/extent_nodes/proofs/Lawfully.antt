-- What test 5 asks of a key's own bytes, by the edition.
-- Assumes nothing.
use mathlib.Core.Path.{◌≡◌, ◌∙◌}
use mathlib.Core.Logic.{◌↔◌}
use mathlib.Core.List.{List}
use Prim.Native.Nat.{ℕ, ◌+◌}
use lib.ListN.{get_or}
use Rattle.image.specs.Bytes.{be16_at}
use Rattle.frame.specs.declared.form.Form.{Form}
use Rattle.frame.specs.Form.{key_length}
use Rattle.frame.proofs.Forms.{if-zero, if-not}
use Rattle.extent_keys.specs.Key.{Lawful}
use Rattle.extent_keys.proofs.Order.{key-hfs, key-plus}
use Rattle.extent_nodes.specs.Records.{length_at, KeyLaw}

module _ (form : Form) (t : form.tree ≡ 0) (img : List ℕ) (at : ℕ) where
  length-hfs : form.edition ≡ 0 → key_length form ≡ 7
  unfolding key_length
  length-hfs e = if-zero form.tree _ 37 t ∙ if-zero form.edition 7 10 e

  length-plus : (form.edition ≡ 0 → ⊥) → key_length form ≡ 10
  unfolding key_length
  length-plus h = if-zero form.tree _ 37 t ∙ if-not form.edition 7 10 h

  pub law-hfs : form.edition ≡ 0 → KeyLaw form img at ↔ ((get_or img at 0 ≡ 7) × Lawful (get_or img (at + 1) 0))
  unfolding length_at
  law-hfs e = (λ l. (there l.length, rw (key-hfs form img at e) at l.fork), λ (a, b). record { length = back a; fork = rw (key-hfs form img at e) b })
    where
      there : length_at form img at ≡ key_length form → get_or img at 0 ≡ 7
      there x = rw (if-zero form.edition (get_or img at 0) (be16_at img at) e, length-hfs e) at x

      back : get_or img at 0 ≡ 7 → length_at form img at ≡ key_length form
      back x = rw (if-zero form.edition (get_or img at 0) (be16_at img at) e, length-hfs e) x

  pub law-plus : (form.edition ≡ 0 → ⊥) → KeyLaw form img at ↔ ((be16_at img at ≡ 10) × Lawful (get_or img (at + 2) 0))
  unfolding length_at
  law-plus h = (λ l. (there l.length, rw (key-plus form img at h) at l.fork), λ (a, b). record { length = back a; fork = rw (key-plus form img at h) b })
    where
      there : length_at form img at ≡ key_length form → be16_at img at ≡ 10
      there x = rw (if-not form.edition (get_or img at 0) (be16_at img at) h, length-plus h) at x

      back : be16_at img at ≡ 10 → length_at form img at ≡ key_length form
      back x = rw (if-not form.edition (get_or img at 0) (be16_at img at) h, length-plus h) x
