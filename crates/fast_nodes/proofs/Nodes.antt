-- A node of an HFS extents tree, by what the fast tests find.
-- Assumes nothing.
use mathlib.Core.Path.{◌≡◌, refl, sym, ap, subst, ◌∙◌}
use mathlib.Core.List.{List}
use Prim.Native.Nat.{ℕ, suc, ◌+◌, ◌-◌, ◌*◌, ◌≤◌, ◌<◌}
use native.Mathlib.Decide.{ℕ_discrete}
use native.Mathlib.Omega.{arith}
use lib.ListN.{get_or}
use Rattle.image.specs.Bytes.{be16_at, be32_at, be64_at}
use Rattle.btree.specs.Header.{count_of, view_of}
use Rattle.frame.specs.declared.form.Form.{Form}
use Rattle.frame.specs.Form.{hfs, layout_of, key_size}
use Rattle.frame.specs.Kinds.{leaf_kind, index_kind, kind_on, kind_of}
use Rattle.image.proofs.Words.{Bytes}
use Rattle.extent_nodes.specs.Records.{data_size, record_size, start_in, start_at, KeyLaw}
use Rattle.extent_nodes.proofs.Lawfully.{law-hfs}
use Rattle.btree.specs.Walk.{Under, Meets}
use Rattle.btree.proofs.Decisions.{cond_yes, cond_no}
use Rattle.formats.specs.Format.{rank_at, record_at, Records, view}
use Rattle.formats.proofs.Starts.{start-extents}
use Rattle.order.specs.Bound.{bound}
use Rattle.order.specs.Whole.{Ascends, WholeLeaf}
use Rattle.order.proofs.Bounds.{no_pointer, no_bound, pointer-meets, bound-under}
use Rattle.order.proofs.Rising.{none-wrong}
use Rattle.fast_records.specs.Keyed.{packed_at, Keyed}
use Rattle.fast_nodes.specs.Passes.{Recorded, LeafHead, Passes, LeafPasses}
use Rattle.fast_nodes.proofs.Ranks.{below-rank, same_rank}

pub leaf-size : record_size hfs leaf_kind ≡ 20
unfolding key_size data_size record_size ℕ_discrete
leaf-size = refl

pub index-size : record_size hfs index_kind ≡ 12
unfolding key_size data_size record_size ℕ_discrete
index-size = refl

module _ (img : List ℕ) (n start kind size top : ℕ) (s : start ≡ n * 512) (z : record_size hfs kind ≡ size) (r : Recorded img start kind size top) where
  is-kind : kind_of hfs img n ≡ kind
  unfolding kind_of
  is-kind = rw (← s) r.is_kind

  pub count-is : count_of (layout_of hfs) img n ≡ be16_at img (start + 10)
  count-is = rw (← s) refl

  place : (i : ℕ) → start_at hfs kind n i ≡ start + 14 + i * size
  place i = rw (z, ← s) (omega arith)

  pub record_is : (i : ℕ) → record_at hfs img n i ≡ start + 14 + i * size
  record_is i = start-extents hfs img n i refl kind is-kind ∙ place i

  offset : (i : ℕ) → i < suc (count_of (layout_of hfs) img n) → be16_at img (n * 512 + (512 - 2 - 2 * i)) ≡ start_in hfs kind i
  offset i h =
      let c = count-is in
      let f = r.few in
      let e : start + 510 - 2 * i ≡ n * 512 + (512 - 2 - 2 * i) = omega arith in
      rw z (rw e at (r.keyed.words i (omega arith)))

  law : (i : ℕ) → i < count_of (layout_of hfs) img n → KeyLaw hfs img (start_at hfs kind n i)
  law i h = let c = count-is in let k = r.keyed.law i (omega arith) in (law-hfs hfs refl img _ refl).1 (rw (place i) (k.length, k.fork))

  pub recorded : Records hfs img kind n
  recorded =
      record {
        is_kind = is-kind;
        reserved = rw (← s) r.reserved;
        some = let c = count-is in omega (arith, r.some);
        extents = λ _. record { few = rw (z, count-is) (omega (arith, r.few)); offsets = offset; keys = law };
        catalog = λ h. absurd (omega arith);
      }

  pub ascending : Bytes img → Ascends (view hfs img) n
  unfolding view_of
  ascending b i h =
      let c = count-is in
      rw (record_is i, record_is (suc i)) (below-rank hfs refl refl img b _ _ (r.keyed.ascend i (omega arith)))

  pub last_under : packed_at img (record_at hfs img n (count_of (layout_of hfs) img n - 1)) < top
  last_under = rw (record_is (count_of (layout_of hfs) img n - 1), count-is) r.keyed.under

  -- an HFS leaf by its first bytes, its keys and its back link
  pub leaf-passed : kind ≡ leaf_kind → Bytes img → (before raw : ℕ) → get_or img (start + 9) 0 ≡ 1 → be32_at img (start + 4) ≡ before → be64_at img (start + 14) ≡ raw → LeafPasses img n before raw top
  leaf-passed k b before raw level back first =
      let e : start + 14 + 0 * size ≡ start + 14 = omega arith in
      record {
        level = rw (← s) level;
        records = subst (λ (x : ℕ). Records hfs img x n) k recorded;
        ascend = ascending b;
        first = ap (be64_at img) (record_is 0 ∙ e) ∙ first;
        under = last_under;
        back = rw (← s) back;
      }

  -- tests 5 and 6, by the places of the keys that point at the node and bound its own
  module _ (b : Bytes img) (d low high : ℕ) (level : get_or img (start + 9) 0 + d ≡ be16_at img 14) (on : kind_on (get_or img (start + 9) 0) ≡ kind)
      (meets : (low ≡ 0 → ⊥) → be64_at img (start + 14) ≡ be64_at img (low - 1)) (under : (high ≡ 0 → ⊥) → top ≡ packed_at img (high - 1)) where
    first_key : 0 < (view hfs img).count n → Meets ((view hfs img).key n 0) (bound hfs img low)
    unfolding view_of
    first_key h = go (ℕ_discrete low 0)
      where
        go : Dec (low ≡ 0) → Meets (rank_at hfs img (record_at hfs img n 0)) (bound hfs img low)
        go (yes e) = no_pointer hfs img _ low e
        go (no e) =
            let z : start + 14 + 0 * size ≡ start + 14 = omega arith in
            (pointer-meets hfs img _ low e).1 (rw (record_is 0, z) (same_rank hfs refl refl img b _ _ (meets e)))

    last-key : Under ((view hfs img).key n ((view hfs img).count n - 1)) (bound hfs img high)
    unfolding view_of
    last-key = go (ℕ_discrete high 0)
      where
        go : Dec (high ≡ 0) → Under (rank_at hfs img (record_at hfs img n (count_of (layout_of hfs) img n - 1))) (bound hfs img high)
        go (yes e) = no_bound hfs img _ high e
        go (no e) = (bound-under hfs img _ high e).1 (below-rank hfs refl refl img b _ _ (rw (under e) at last_under))

    pub passes : Passes hfs img n d (bound hfs img low) (bound hfs img high)
    unfolding view_of
    passes =
        record {
          formed = record { level = rw (← s) level; records = rw (← s, on) recorded };
          ordered = none-wrong (view hfs img) (bound hfs img low) (bound hfs img high) n first_key (record { ascend = ascending b; last = last-key });
        }

-- the same of a form that turned out to be that of HFS
module _ (form : Form) (is : form ≡ hfs) (img : List ℕ) (b : Bytes img) (n start kind size top : ℕ) (at : start ≡ n * form.size) (z : record_size hfs kind ≡ size)
    (r : Recorded img start kind size top) where
  at-hfs : start ≡ n * 512
  at-hfs = at ∙ ap (λ (f : Form). n * f.size) is

  pub whole-leaf : kind ≡ leaf_kind → WholeLeaf form img n
  whole-leaf k =
      subst (λ (f : Form). WholeLeaf f img n) (sym is)
      (record { records = subst (λ (x : ℕ). Records hfs img x n) k (recorded img n start kind size top at-hfs z r); ascend = ascending img n start kind size top at-hfs z r b })

  pub node-passes : (d low high : ℕ) → get_or img (start + 9) 0 + d ≡ be16_at img 14 → kind_on (get_or img (start + 9) 0) ≡ kind
      → ((low ≡ 0 → ⊥) → be64_at img (start + 14) ≡ be64_at img (low - 1)) → ((high ≡ 0 → ⊥) → top ≡ packed_at img (high - 1))
      → Passes form img n d (bound form img low) (bound form img high)
  node-passes d low high level on meets under =
      subst (λ (f : Form). Passes f img n d (bound f img low) (bound f img high)) (sym is) (passes img n start kind size top at-hfs z r b d low high level on meets under)

-- the kind of a level
pub on-leaf : (level : ℕ) → level ≡ 1 → kind_on level ≡ leaf_kind
unfolding kind_on
on-leaf level e = cond_yes (ℕ_discrete level 1) leaf_kind index_kind e

pub on-index : (level : ℕ) → (level ≡ 1 → ⊥) → kind_on level ≡ index_kind
unfolding kind_on
on-index level h = cond_no (ℕ_discrete level 1) leaf_kind index_kind h

-- the records of a leaf, from its first bytes and its keys
pub leaf-recorded : (img : List ℕ) (start c top : ℕ) → c ≡ be16_at img (start + 10) → LeafHead img start → 0 < c → c ≤ 22 → Keyed img start 20 c top → Recorded img start 255 20 top
leaf-recorded img start c top e h some few k =
    record {
      is_kind = h.is_kind;
      reserved = h.reserved;
      some = omega (arith, e);
      few = omega (arith, e);
      keyed = rw (← e) k;
    }
