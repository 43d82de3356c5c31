-- What a step of the walk, and a visit of a node with all below it, ask and give.
-- Assumes nothing.
use Rattle.std.specs.Prelude.{◌≡◌, List, ℕ, ◌+◌, ◌*◌, ◌≤◌, length, Result}
use Rattle.btree.specs.declared.fault.Fault.{Fault}
use Rattle.frame.specs.declared.form.Form.{Form}
use Rattle.frame.specs.Form.{Fair}
use Rattle.formats.specs.Format.{view}
use Rattle.step.specs.declared.pointer.Pointer.{Pointer}
use Rattle.step.specs.declared.state.Walk.{Walk}
use Rattle.step.specs.State.{State, state_of}
use Rattle.step.specs.Room.{Small}

-- an image whose tree can be walked, with these bytes for the visited bitmap
pub record Walkable (form : Form) (img bits : List ℕ) : Type 0 where
  pub fair : Fair form
  pub few : (view form img).total ≤ 65536
  -- the image has all nodes
  pub whole : (view form img).total * form.size ≤ length img
  -- the bytes have a bit for each node
  pub room : (view form img).total ≤ 8 * length bits
  pub shallow : (view form img).depth ≤ 8

-- what they ask, with h levels below the node that is pointed at
pub record Ready (form : Form) (img bits : List ℕ) (e : Pointer) (h : ℕ) (w : Walk) : Type 0 where
  pub walkable : Walkable form img bits
  pub levels : e.level + h + 1 ≡ (view form img).depth
  pub small : Small bits w

-- what they give, with the bits and the walk as they leave them
pub record Gives (bits : List ℕ) (w : Walk) (r : Result (Unit {0}) Fault) (want : State) : Type 0 where
  pub is : state_of bits w r ≡ want
  pub small : Small bits w
