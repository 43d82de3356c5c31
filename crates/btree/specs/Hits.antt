-- What a search by number comes to, as the code has it. No public promise mentions it.
-- Assumes nothing.
use Rattle.std.proofs.Math.Option as math
use Rattle.std.specs.Prelude.{ℕ, Option, Some, None}

abbrev pub hit_of : math.Option ℕ → Option ℕ
hit_of math.none = None
hit_of (math.some i) = Some i
