-- A run over the leaves below an index node: what it asks, and that it does what their steps one after another do. No public promise mentions it.
-- Assumes nothing.
use Rattle.std.specs.Prelude.{◌≡◌, true, List, ℕ, ◌+◌, ◌-◌, ◌<◌, ◌≤◌, length, set}
use Rattle.btree.specs.Lists.{span}
use Rattle.btree.specs.Header.{total_of, depth_of, forward_of, count_of}
use Rattle.btree.specs.Walk.{Under, kid}
use Rattle.frame.specs.declared.form.Form.{Form}
use Rattle.frame.specs.Form.{hfs, layout_of}
use Rattle.frame.specs.Inside.{NodeIn}
use Rattle.frame.specs.Kinds.{index_kind, kind_of}
use Rattle.formats.specs.Format.{rank_at, view}
use Rattle.order.specs.Bound.{bound}
use Rattle.fast_records.specs.Keyed.{packed_at}
use Rattle.fast_nodes.specs.Passes.{LeafPasses}
use Rattle.step.specs.declared.state.Walk.{Walk}
use Rattle.step.specs.State.{fresh_in, last_at, steps}
use Rattle.step.specs.State.State.{going}
use Rattle.step.specs.Room.{Small}
use Rattle.step.specs.Ready.{Walkable}
use Rattle.leaf_run.specs.declared.run.Run.{Run}

-- a walk after a run on level d
unfoldable pub ran_of : Walk → ℕ → Run → Walk
ran_of w d r =
    record {
      last = set w.last d r.last;
      records = w.records + r.records;
      first = w.first;
      nodes = w.nodes + r.count;
    }

-- it has room for the run
pub record Addable (w : Walk) (d : ℕ) (r : Run) : Type 0 where
  pub level : d < 8
  pub records : w.records + r.records < 4294967296
  pub nodes : w.nodes + r.count < 4294967296

-- the entries from record i on, of c, come to what those after the run come to from where it ended
pub record Ran (form : Form) (img bits after : List ℕ) (w : Walk) (h d n i c high : ℕ) (r : Run) : Type 0 where
  pub upto : i + r.count ≤ c
  pub is : steps (view form img) (going bits w) (span i (c - i) (kid (view form img) h d (bound form img high) n))
      ≡ steps (view form img) (going after (ran_of w (d + 1) r)) (span (i + r.count) (c - (i + r.count)) (kid (view form img) h d (bound form img high) n))
  pub small : Small after (ran_of w (d + 1) r)

-- what is asked at record i of c of a node on level d, with h levels below it
pub record RunReady (form : Form) (img bits : List ℕ) (w : Walk) (h d n i c high : ℕ) : Type 0 where
  pub walkable : Walkable form img bits
  pub levels : d + h + 1 ≡ (view form img).depth
  pub index : 0 < h
  pub count : c ≡ (view form img).count n
  pub upto : i ≤ c
  pub high_place : high < 1000000000000000
  pub small : Small bits w

-- a walk that has met a leaf, and p last on level d
pub record Begun (bits : List ℕ) (w : Walk) (d p : ℕ) : Type 0 where
  pub first : w.first ≡ 0 → ⊥
  pub last : last_at w d ≡ p
  pub wide : length w.last ≡ 8
  pub small : Small bits w

-- the bytes that a run over the leaves below an HFS index node of c records reads, with p met last before it
pub record Readable (img : List ℕ) (p n c high : ℕ) : Type 0 where
  pub few : c ≤ 35
  pub before_in : NodeIn hfs img p
  pub node_in : NodeIn hfs img n
  pub index : kind_of hfs img n ≡ index_kind
  pub high_in : high + 7 ≤ length img

-- whether a run can begin, where all below the node are leaves
pub record CanRun (form : Form) (img : List ℕ) (w : Walk) (h p n c high : ℕ) : Type 0 where
  pub leaves : h ≡ 1
  pub is_hfs : form ≡ hfs
  pub first : w.first ≡ 0 → ⊥
  pub readable : Readable img p n c high

-- a packed key below this number is below the bound at `high`
abbrev pub Tops : List ℕ → ℕ → ℕ → Type 0
Tops img high top = (at : ℕ) → packed_at img at < top → Under (rank_at hfs img at) (bound hfs img high)

-- a leaf that surely passes: it is fresh, its tests pass and the one before leads to it
pub record Surely (img bits : List ℕ) (p n raw top : ℕ) : Type 0 where
  pub fresh : fresh_in (total_of img) bits n ≡ true
  pub passes : LeafPasses img n p raw top
  pub leads : forward_of (layout_of hfs) img p ≡ n

-- what is asked of a run from record i on
pub record Runnable (img bits : List ℕ) (p n i c high : ℕ) : Type 0 where
  pub walkable : Walkable hfs img bits
  pub readable : Readable img p n c high
  pub count : c ≡ count_of (layout_of hfs) img n
  pub upto : i ≤ c

-- what it gives, for any walk that can begin it
abbrev pub RanFor : (img bits after : List ℕ) (p n i c high : ℕ) (r : Run) → Type 0
RanFor img bits after p n i c high r = (w : Walk) (d : ℕ) → d + 2 ≡ depth_of img → Begun bits w (d + 1) p → Ran hfs img bits after w 0 d n i c high r
