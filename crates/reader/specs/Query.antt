-- What a tree is asked for.
-- Assumes nothing.
use Rattle.std.specs.Prelude.{List, ℕ}

-- a key, of either tree
pub record Query : Type 1 where
  -- as a number in whose order keys are
  pub rank : ℕ
  -- it may be asked for; else 11: "asked key has a fork byte other than 00 or FF", W-204: "An asked name above 31 bytes"
  pub Lawful : Type 0
  pub dec_lawful : Dec Lawful
  -- the key that stands at a byte of the image is this one: "A record has the asked key when the two keys compare as 0."
  pub IsAt : List ℕ → ℕ → Type 0
