-- W-208: a record's number and its start determine each other.
-- Assumes nothing.
use mathlib.Core.Path.{◌≡◌, sym, ap, ◌∙◌}
use mathlib.Core.Logic.{◌↔◌}
use mathlib.Core.List.{List}
use Prim.Native.Nat.{ℕ, ◌<◌}
use Rattle.btree.specs.declared.Place.{Place}
use Rattle.btree.specs.Places.{record_place}
use Rattle.btree.specs.Lists.{◌∈◌}
use Rattle.btree.specs.Tree.{Rec}
use Rattle.btree.specs.Header.{count_of, view_of}
use Rattle.btree.proofs.Paths.{leaf-stands}
use Rattle.frame.specs.declared.form.Form.{Form}
use Rattle.frame.specs.Form.{Fair, layout_of}
use Rattle.formats.specs.Format.{Records, record_offset, view}
use Rattle.formats.proofs.Starts.{offset-once}
use Rattle.reader.specs.Reader.{Sound, leaf_list}
use Rattle.reader.proofs.Parts.{leaf-records}

-- of any two records of nodes that passed their tests
pub place-iff : (form : Form) (img : List ℕ) (kind n i m j : ℕ) → Records form img kind n → i < count_of (layout_of form) img n → j < count_of (layout_of form) img m
    → ((n ≡ m) × (i ≡ j)) ↔ (record_place (view form img) n i ≡ record_place (view form img) m j)
unfolding view_of
place-iff form img kind n i m j r u v = (λ (a, b). rw (a, b), back)
  where
    back : record_place (view form img) n i ≡ record_place (view form img) m j → (n ≡ m) × (i ≡ j)
    back e =
        let a = ap (λ (p : Place). p.node) e in
        let b = ap (λ (p : Place). p.offset) e in
        (a, offset-once form img kind n r i j u (rw (← a) at v) (rw (← a) at b))

-- so of any two records of one leaf of a sound image
pub start-iff : (form : Form) → Fair form → (img : List ℕ) → Sound form img → (x y : Rec) → x ∈ leaf_list form img → y ∈ leaf_list form img → x.node ≡ y.node
    → (x.number ≡ y.number) ↔ (x.offset ≡ y.offset)
unfolding view_of
start-iff form fair img s x y a b e =
    let p = leaf-stands (view form img) s.tree s.totals x a in
    let q = leaf-stands (view form img) s.tree s.totals y b in
    let (r, _) = leaf-records form fair img s x.node p.leaf in
    let o = p.is_offset in
    let w = rw (← e) at q.is_offset in (
      λ h. sym o ∙ ap (record_offset form img x.node) h ∙ w,
      λ h. offset-once form img _ x.node r x.number y.number p.inside (rw (← e) at q.inside) (o ∙ h ∙ sym w),
    )
