-- A leaf that surely passes: the tests at it, as the walk comes to it, find no fault.
-- Assumes nothing.
use mathlib.Core.Path.{◌≡◌, refl, sym, ap, ◌∙◌}
use mathlib.Core.Option.{none, some}
use mathlib.Core.List.{List}
use Prim.Native.Nat.{ℕ, suc, ◌+◌, ◌*◌, ◌/◌, ◌<◌, ◌≤◌}
use native.Mathlib.Decide.{ℕ_discrete, dec_lt}
use native.Mathlib.Omega.{arith}
use Rattle.std.specs.Option.{OnSome}
use Rattle.std.specs.declared.option.Option.{Option}
use Rattle.std.specs.declared.option.Option.TheVariants.{Some, None}
use Rattle.image.specs.Bytes.{be32_at, be64_at}
use Rattle.btree.specs.Decide.{cond}
use Rattle.btree.specs.Places.{child_place}
use Rattle.btree.specs.Header.{depth_of, count_of, view_of}
use Rattle.btree.specs.Walk.{Entry, Under, above, dec_leads, fine, test, wrong_key}
use Rattle.btree.proofs.Decisions.{says-yes}
use Rattle.btree.proofs.First.{no-fault}
use Rattle.frame.specs.Form.{hfs, key_size, layout_of}
use Rattle.frame.specs.Kinds.{index_kind, kind_on, kind_of}
use Rattle.extent_nodes.specs.Records.{record_size}
use Rattle.image.proofs.Words.{Bytes}
use Rattle.formats.specs.Format.{rank_at, record_at, view}
use Rattle.formats.proofs.Starts.{start-extents}
use Rattle.order.specs.Bound.{bound}
use Rattle.order.proofs.Rising.{none-wrong}
use Rattle.fast_records.specs.Keyed.{turn, packed_at}
use Rattle.fast_records.proofs.Numbers.{turn-key}
use Rattle.fast_nodes.proofs.Ranks.{below-rank, same_rank}
use Rattle.step.specs.State.{fresh_in}
use Rattle.leaf_run.specs.Run.{Tops, Surely}

-- more is said where something is
pub on-some : {T A B : Type 0} (o : Option T) → (A → B) → OnSome o A → OnSome o B
on-some None f h = h
on-some (Some x) f h = f h

-- the eight bytes of a key, turned, without the length
pub turned-key : (img : List ℕ) → Bytes img → (at : ℕ) → turn (be64_at img at) / 256 ≡ packed_at img at
turned-key img b at = let e = turn-key img b at in let l = b at in rw e (omega arith)

-- where the records of an HFS index node stand
module _ (img : List ℕ) (n : ℕ) (k : kind_of hfs img n ≡ index_kind) where
  pub pointer-at : (i : ℕ) → record_at hfs img n i ≡ n * 512 + 14 + i * 12
  unfolding record_size key_size ℕ_discrete
  pointer-at i = let e = start-extents hfs img n i refl index_kind k in omega arith

  pub child-is : (i : ℕ) → (view hfs img).child n i ≡ be32_at img (n * 512 + 14 + i * 12 + 8)
  unfolding view_of key_size
  child-is i = let e = pointer-at i in ap (be32_at img) (omega arith)

-- a turn of the run: at record j of c of the index node n, with the leaf p before
pub record Turn (img bits : List ℕ) (p n j c high at raw child next top end : ℕ) : Type 0 where
  pub bytes : Bytes img
  pub index : kind_of hfs img n ≡ index_kind
  pub count : c ≡ count_of (layout_of hfs) img n
  pub more : j < c
  pub place : at ≡ n * 512 + 14 + j * 12
  pub low : raw ≡ be64_at img at
  pub points : child ≡ be32_at img (at + 8)
  pub after : next ≡ be64_at img (at + 12)
  pub top_next : j + 1 < c → top ≡ turn next / 256
  pub top_end : c ≤ j + 1 → top ≡ end
  pub ends : Tops img high end
  pub surely : Surely img bits p child raw top

-- record j of the node n, on level d, as the walk comes to its child
abbrev pub entry_at : List ℕ → ℕ → ℕ → ℕ → ℕ → Entry
entry_at img d n j high =
    record {
      node = (view hfs img).child n j;
      from = child_place (view hfs img) n j;
      level = suc d;
      low = some ((view hfs img).key n j);
      high = above (view hfs img) n j (bound hfs img high);
    }

module _ (img bits : List ℕ) (p n j c high at raw child next top end : ℕ) (t : Turn img bits p n j c high at raw child next top end) where
  -- a key below the top is below the bound that the search path sets
  under : (x : ℕ) → packed_at img x < top → Under (rank_at hfs img x) (above (view hfs img) n j (bound hfs img high))
  unfolding view_of
  under x l = go (dec_lt (suc j) (count_of (layout_of hfs) img n))
    where
      go : (q : Dec (suc j < count_of (layout_of hfs) img n)) → Under (rank_at hfs img x) (cond q (some (rank_at hfs img (record_at hfs img n (suc j)))) (bound hfs img high))
      go (yes h) =
          let e : at + 12 ≡ record_at hfs img n (suc j) = let a = t.place in let q = pointer-at img n t.index (suc j) in omega arith in
          let s : top ≡ packed_at img (record_at hfs img n (suc j)) =
          t.top_next (omega (arith, t.count)) ∙ ap (λ (y : ℕ). turn y / 256) (t.after ∙ ap (be64_at img) e) ∙ turned-key img t.bytes _ in
          below-rank hfs refl refl img t.bytes x _ (rw s at l)
      go (no h) = let s = t.top_end (omega (arith, t.count)) in t.ends x (rw s at l)

  pub is-child : (view hfs img).child n j ≡ child
  is-child = child-is img n t.index j ∙ sym (t.points ∙ ap (λ (y : ℕ). be32_at img (y + 8)) t.place)

  ordered : wrong_key (view hfs img) (some ((view hfs img).key n j)) (above (view hfs img) n j (bound hfs img high)) child ≡ none
  unfolding view_of
  ordered =
      let s = t.surely.passes in
      none-wrong (view hfs img) _ _ child
      (λ l. same_rank hfs refl refl img t.bytes _ _ (s.first ∙ t.low ∙ ap (be64_at img) (t.place ∙ sym (pointer-at img n t.index j))))
      (record { ascend = s.ascend; last = under _ s.under })

  formed : (d : ℕ) → d + 2 ≡ depth_of img → (view hfs img).WellFormed child (suc d)
  unfolding view_of kind_on ℕ_discrete
  formed d e =
      let s = t.surely.passes in
      let l = s.level in
      record { level = omega arith; records = rw l s.records }

  pub turn-fine : (d : ℕ) → d + 2 ≡ depth_of img → test (view hfs img) (fresh_in (view hfs img).total bits ((view hfs img).child n j)) p (entry_at img d n j high) ≡ fine
  unfolding view_of
  turn-fine d e =
      let v = view hfs img in
      let s = t.surely in
      rw is-child
      (no-fault v (fresh_in v.total bits child) p (record { node = child; from = child_place v n j; level = suc d; low = some (v.key n j); high = above v n j (bound hfs img high) })
      s.fresh (says-yes (v.dec_well_formed child (suc d)) (formed d e)) ordered (says-yes (ℕ_discrete (v.back child) p) s.passes.back)
      (says-yes (dec_leads v p child) (λ z. s.leads)))
