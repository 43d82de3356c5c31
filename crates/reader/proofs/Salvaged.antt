-- Every leaf record of a sound image is seen.
-- Assumes nothing.
use mathlib.Core.Path.{◌≡◌, sym, ap, ◌∙◌}
use mathlib.Core.List.{List}
use Prim.Native.Nat.{ℕ, ◌/◌, ◌<◌, ◌≤◌}
use native.Mathlib.Omega.{arith}
use native.Mathlib.Decide.{dec_lt}
use lib.ListN.{length}
use Rattle.btree.specs.declared.Salvage.TheVariants.{Seen}
use Rattle.btree.specs.Places.{record_place}
use Rattle.btree.specs.Lists.{◌∈◌}
use Rattle.btree.specs.Tree.{Rec, leaves_at}
use Rattle.btree.specs.Header.{view_of}
use Rattle.btree.specs.Search.{place_of}
use Rattle.btree.proofs.Paths.{leaf-stands, leaf-listed, leaf_list-once}
use Rattle.frame.specs.declared.form.Form.{Form}
use Rattle.frame.specs.Form.{Fair}
use Rattle.formats.specs.Format.{view}
use Rattle.reader.specs.Query.{Query}
use Rattle.reader.specs.Reader.{Sound, leaf_list, salvaged}
use Rattle.order.specs.Whole.{WholeLeaf}
use Rattle.scan.specs.Seen.{First}
use Rattle.reader.specs.Salvage.{Searched}
use Rattle.reader.proofs.Parts.{leaf-level, leaf-records}
use Rattle.scan.proofs.Matches.{Has, some-seen}
use Rattle.reader.proofs.Matches.{salvage-searched}

-- the leaves of the tree
abbrev pub leaves_of : Form → List ℕ → List ℕ
leaves_of form img = leaves_at (view form img) (view form img).depth

-- salvage sees the asked key of the leaf record x
pub record Kept (form : Form) (img : List ℕ) (q : Query) (x : Rec) : Type 0 where
  pub node : ℕ
  pub number : ℕ
  pub seen : salvaged form img q ≡ Seen (record_place (view form img) node number)
  -- in a whole leaf that has the key, the record's own or an earlier one
  pub after_header : 1 ≤ node
  pub has : Has form img q.rank node number
  pub not_after : node ≤ x.node
  -- and where that is a leaf of the tree, it is the record itself
  pub own : node ∈ leaves_of form img → (node ≡ x.node) × (number ≡ x.number)

module _ (form : Form) (fair : Fair form) (img : List ℕ) (s : Sound form img) where
  -- a leaf of a sound tree counts
  pub leaf-counts : (n : ℕ) → n ∈ leaves_of form img → (1 ≤ n) × (n < length img / form.size) × WholeLeaf form img n
  unfolding view_of
  leaf-counts n m =
      let (h, e, o) = leaf-level form img n m in
      let (r, l) = leaf-records form fair img s n m in
      let z = s.tree.nonzero h n o in
      let t = s.header.total_nodes in
      (omega arith, omega arith, record { records = r; ascend = λ i u. s.tree.ascend h n i o u })

  module _ (q : Query) (lawful : q.Lawful) (x : Rec) (listed : x ∈ leaf_list form img) (same : x.key ≡ q.rank) where
    pub kept : Kept form img q x
    unfolding view_of
    kept =
        let l = leaf-stands (view form img) s.tree s.totals x listed in
        let (a, b, w) = leaf-counts x.node l.leaf in
        let (m, j, e, f) = some-seen form img q.rank (length img / form.size) Hit (λ n i. (λ h. h, λ h. h)) x.node x.number
        (a, b, record { counts = w; inside = l.inside; is_key = l.is_key ∙ same }) in
        let searched : Searched form img q = record { lawful = lawful; few = s.lengths.few } in
        let (c, d, h) = f.here in
        record {
          node = m;
          number = j;
          seen = salvage-searched form img q searched ∙ e;
          after_header = c;
          has = h;
          not_after = earliest m j f (a, b, record { counts = w; inside = l.inside; is_key = l.is_key ∙ same }) (dec_lt x.node m);
          own = λ o. let y = leaf_list-once (view form img) s.tree s.totals _ x (leaf-listed (view form img) s.tree s.totals m j o h.inside) listed (h.is_key ∙ sym same) in
              (ap (λ (r : Rec). r.node) y, ap (λ (r : Rec). r.number) y);
        }
      where
        Hit : ℕ → ℕ → Type 0
        Hit n i = (1 ≤ n) × (n < length img / form.size) × Has form img q.rank n i

        earliest : (m j : ℕ) → First Hit m j → Hit x.node x.number → Dec (x.node < m) → m ≤ x.node
        earliest m j f h (yes l) = absurd (f.none_earlier x.node x.number l h)
        earliest m j f h (no l) = omega arith

    -- it is the record itself unless an earlier whole leaf has the key
    pub kept-itself : ((m j : ℕ) → 1 ≤ m → m < x.node → Has form img q.rank m j → ⊥) → salvaged form img q ≡ Seen (place_of x)
    kept-itself none = go kept
      where
        go : Kept form img q x → salvaged form img q ≡ Seen (place_of x)
        go r = at (dec_lt r.node x.node)
          where
            at : Dec (r.node < x.node) → salvaged form img q ≡ Seen (place_of x)
            at (yes l) = absurd (none r.node r.number r.after_header l r.has)
            at (no l) =
                let n = r.not_after in
                let e : r.node ≡ x.node = omega arith in
                let o = leaf-stands (view form img) s.tree s.totals x listed in
                let (a, b) = r.own (rw e o.leaf) in
                r.seen ∙ rw (a, b, o.is_offset)
