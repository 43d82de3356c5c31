-- `records::record_step` meets its contract. Assumes nothing.
use native.Mathlib.Omega.{arith}
use Rattle.frame.specs.Kinds.{kind_of}
use Rattle.extent_nodes.specs.Records.{record_size}
use Rattle.formats.proofs.records.record_step.Goals as goal

pub returns : goal.returns
unfolding kind_of record_size
returns c = grind arith
