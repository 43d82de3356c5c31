-- What tests 2 to 10 ask and give, on the bytes that the nodes of an image need.
-- Assumes nothing.
use Rattle.std.specs.Prelude.{◌≡◌, List, ℕ, length, Result, OnOk}
use Rattle.btree.specs.declared.fault.Fault.{Fault}
use Rattle.btree.specs.Faults.{verdict_of}
use Rattle.btree.specs.Tree.{reached}
use Rattle.btree.specs.Image.{Lengths}
use Rattle.btree.specs.Tests.{verdict}
use Rattle.btree.specs.Work.{needed, needed_left}
use Rattle.frame.specs.declared.form.Form.{Form}
use Rattle.frame.specs.Form.{layout_of, Fair}
use Rattle.chain.specs.Frame.{Marks}
use Rattle.formats.specs.Format.{format_of, view}

-- they ask for an image whose length is right, and the needed bytes
pub record Ready (form : Form) (img bits : List ℕ) : Type 0 where
  pub fair : Fair form
  pub lengths : Lengths (layout_of form) img
  pub enough : length bits ≡ needed (layout_of form) img

-- they give the first fault, or else the bits of all nodes reached
pub record Tested (form : Form) (img bits : List ℕ) (r : Result (Unit {0}) Fault) : Type 0 where
  pub is : verdict_of r ≡ verdict (layout_of form) img (format_of form)
  pub used : OnOk r (Marks bits (reached (view form img)))

-- with the bytes as a call leaves them
pub record Settled (form : Form) (img bits : List ℕ) (r : Result (Unit {0}) Fault) : Type 0 where
  pub is : verdict_of r ≡ verdict (layout_of form) img (format_of form)
  pub left : bits ≡ needed_left (layout_of form) img (format_of form) (verdict_of r).number
