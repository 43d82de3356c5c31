-- How two numbers compare, one field after the other.
-- Assumes nothing.
use Rattle.std.specs.Prelude.{ℕ, ℤ, pos, negsuc}
use Rattle.std.proofs.Math.Decide.{dec_lt}
use Rattle.btree.specs.Decide.{cond}

-- -1 where a is below b, 1 where it is above, and else the next answer
abbrev pub ranked : ℕ → ℕ → ℤ → ℤ
ranked a b next = cond (dec_lt a b) (negsuc 0) (cond (dec_lt b a) (pos 1) next)
