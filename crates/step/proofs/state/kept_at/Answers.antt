-- `state::kept_at` meets its contract. Assumes nothing.
use Rattle.step.specs.State.{kept}
use Rattle.step.proofs.state.kept_at.Goals as goal

pub returns : goal.returns
unfolding kept
returns c = rw (c.first_with.ensures, c.counted.ensures.0)
