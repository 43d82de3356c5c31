-- `run::is_readable` meets its contract. Assumes nothing.
use native.Mathlib.Omega.{arith}
use mathlib.Core.Path.{sym, ◌∙◌}
use Rattle.frame.specs.Form.{hfs, Fair}
use Rattle.frame.specs.Kinds.{kind_of}
use Rattle.leaf_run.proofs.run.is_readable.Goals as goal

wide : Fair hfs
wide = record { least = omega arith; most = omega arith }

pub returns : goal.returns
unfolding kind_of
returns c z =
    record {
      few = c.if-c-gt35.false;
      before_in = record { fair = wide; inside = omega (arith, c.if-hfs_start-image.false, c.hfs_start.ensures.0) };
      node_in = record { fair = wide; inside = omega (arith, c.if-at-image.false, c.hfs_start-at.ensures.0) };
      index = sym (c.byte_in.ensures.0 ∙ rw c.hfs_start-at.ensures.0) ∙ c.if-byte_in-ne0.false;
      high_in = c.if-high-image.false;
    }
