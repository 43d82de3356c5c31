-- How many keys a lookup compares, as W-202 and W-211 word it: at most the binary digits of the count in each node.
-- Assumes nothing.
use mathlib.Core.List.{List}
use Prim.Native.Nat.{ℕ, ◌^◌, ◌≤◌, ◌<◌}
use Rattle.btree.specs.Search.{halved_in}
use Rattle.btree.proofs.Halving.{few}
use Rattle.frame.specs.declared.form.Form.{Form}
use Rattle.formats.specs.Format.{view}

pub digits_in : (form : Form) (img : List ℕ) (k n b : ℕ) → (view form img).count n < 2 ^ b → (halved_in (view form img) k n).compared ≤ b
unfolding halved_in
digits_in form img k n b h = few ((view form img).key n) k ((view form img).count n) b h
