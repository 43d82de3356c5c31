-- What the code keeps of the header and the map chain.
-- Assumes nothing.
use Rattle.std.specs.Prelude.{◌≡◌, List, [], ◌∷◌, ℕ, suc, ◌*◌, ◌≤◌, ◌<◌, length, Result, OnOk, IfOk}
use Rattle.image.specs.Bit.{bit_of}
use Rattle.btree.specs.Header.{total_of, map_nodes}
use Rattle.btree.specs.declared.fault.Fault.{Fault}
use Rattle.btree.specs.Faults.{verdict_of}
use Rattle.btree.specs.Tests.{bit_for, chain_from}
use Rattle.frame.specs.declared.form.Form.{Form}
use Rattle.frame.specs.Form.{layout_of, Fair}

-- the bits set are those of these nodes
abbrev pub Marks : List ℕ → List ℕ → Type 0
Marks bits nodes = (n : ℕ) → bit_of bits n ≡ bit_for nodes n

module _ (form : Form) (img : List ℕ) where
  -- the bytes have a bit for each node
  pub record Room (bits : List ℕ) : Type 0 where
    pub fair : Fair form
    pub some : 0 < total_of img
    pub few : total_of img ≤ 65536
    pub enough : total_of img ≤ 8 * length bits

  -- what the walk along the chain gives, and the bits that it leaves
  pub record ChainOf (bits : List ℕ) (r : Result ℕ Fault) : Type 0 where
    pub verdict : verdict_of r ≡ chain_from (layout_of form) img [] 0 (map_nodes (layout_of form) img)
    pub marks : OnOk r (Marks bits (0 ∷ map_nodes (layout_of form) img))
    pub count : IfOk r (λ nodes. nodes ≡ suc (length (map_nodes (layout_of form) img)))
