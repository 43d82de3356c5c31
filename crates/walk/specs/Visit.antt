-- Where a record of an index node leads, and the entries below a node.
-- Assumes nothing.
use Rattle.std.specs.Prelude.{◌≡◌, List, ℕ, suc}
use Rattle.std.proofs.Math.Option.{some}
use Rattle.btree.specs.Places.{child_place}
use Rattle.btree.specs.Walk.{Entry, above, entries}
use Rattle.frame.specs.declared.form.Form.{Form}
use Rattle.formats.specs.Format.{view}
use Rattle.order.specs.Bound.{bound}
use Rattle.step.specs.declared.pointer.Pointer.{Pointer}

-- the node that is pointed at, with all that is below it on h levels
abbrev pub entries_at : Form → List ℕ → ℕ → Pointer → List Entry
entries_at form img h e = entries (view form img) h e.level e.from (bound form img e.low) (bound form img e.high) e.node

-- record i of a node: its child and where the child's number stands, the key that points there, and the bound of the keys there
pub record Points (form : Form) (img : List ℕ) (e : Pointer) (i : ℕ) (p : Pointer) : Type 0 where
  pub child : p.node ≡ (view form img).child e.node i
  pub from : p.from ≡ child_place (view form img) e.node i
  pub level : p.level ≡ suc e.level
  pub low : bound form img p.low ≡ some ((view form img).key e.node i)
  pub under : bound form img p.high ≡ above (view form img) e.node i (bound form img e.high)
