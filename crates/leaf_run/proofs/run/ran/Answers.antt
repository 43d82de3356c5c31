-- `run::ran` meets its contract. Assumes nothing.
use mathlib.Core.Path.{refl}
use Rattle.leaf_run.specs.Run.{ran_of}
use Rattle.leaf_run.proofs.run.ran.Goals as goal

pub returns : goal.returns
unfolding ran_of
returns c = refl
