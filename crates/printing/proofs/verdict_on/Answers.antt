-- `verdict_on` meets its contract: the bytes lent are enough for every image of a right length. Assumes nothing.
use mathlib.Core.Path.{◌∙◌}
use Prim.Native.Nat.{ℕ}
use native.Mathlib.Omega.{arith}
use lib.ListN.{length-replicate}
use Rattle.btree.proofs.Checked.{checked-else}
use Rattle.frame.specs.Form.{hfs, layout_of}
use Rattle.formats.specs.Format.{format_of}
use Rattle.printing.proofs.verdict_on.Goals as goal

pub returns : goal.returns
returns c =
    c.verdict.ensures
    ∙ c.check.ensures.equal
    ∙ checked-else (layout_of hfs) _ (format_of hfs) _
    (λ t. let a = t.fewer in let b = t.lengths.few in let e = length-replicate {A = ℕ} 8192 0 in omega arith)
