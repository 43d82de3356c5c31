-- What the tests of the tree ask and give.
-- Assumes nothing.
use Rattle.std.specs.Prelude.{◌≡◌, List, ◌∷◌, ℕ, suc, ◌≤◌, length, Result, IfOk, OnOk}
use Rattle.btree.specs.Tree.{map_chain, reached}
use Rattle.btree.specs.declared.fault.Fault.{Fault}
use Rattle.btree.specs.Faults.{verdict_of}
use Rattle.btree.specs.Walk.{walk}
use Rattle.frame.specs.declared.form.Form.{Form}
use Rattle.chain.specs.Frame.{Marks}
use Rattle.formats.specs.Format.{view}
use Rattle.step.specs.Ready.{Walkable}

-- what the tests of the tree ask: the bits and the count are those of the header and the map chain
pub record Begins (form : Form) (img bits : List ℕ) (nodes : ℕ) : Type 0 where
  pub walkable : Walkable form img bits
  pub marks : Marks bits (0 ∷ map_chain (view form img))
  pub count : nodes ≡ suc (length (map_chain (view form img)))
  pub small : nodes ≤ 65536

-- what they give: the first fault, or else the bits and the count of all nodes reached
pub record Ends (form : Form) (img bits : List ℕ) (r : Result ℕ Fault) : Type 0 where
  pub verdict : verdict_of r ≡ walk (view form img)
  pub marks : OnOk r (Marks bits (reached (view form img)))
  pub count : IfOk r (λ nodes. nodes ≡ length (reached (view form img)))
