-- `key::key_at` meets its contract. Assumes nothing.
use mathlib.Core.Path.{ap, ◌∙◌}
use Rattle.extent_keys.specs.Key.{rank}
use Rattle.extent_keys.proofs.Order.{key-copied}
use Rattle.extent_keys.proofs.key.key_at.Goals as goal

pub returns : goal.returns
returns c = c.key_in-2.ensures ∙ ap rank (key-copied _ _ _ c.bytes_from.ensures _)
