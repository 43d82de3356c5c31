-- `key::is_key` meets its contract. Assumes nothing.
use native.Mathlib.Omega.{arith}
use mathlib.Core.Path.{sym, ◌∙◌}
use borrow.Author.Tests.{le-ltb}
use Rattle.btree.proofs.Decisions.{says-no, says_same}
use Rattle.extent_keys.specs.Key.{dec_lawful, dec_key}
use Rattle.extent_keys.proofs.key.is_key.Goals as goal

pub returns-then-number-lt-KEY_LIMIT : goal.returns-then-number-lt-KEY_LIMIT
returns-then-number-lt-KEY_LIMIT c = c.is_lawful.ensures ∙ says_same (dec_lawful _) (dec_key _) (λ l. (omega arith, l)) (λ (a, l). l)

pub returns-else-number-lt-KEY_LIMIT : goal.returns-else-number-lt-KEY_LIMIT
returns-else-number-lt-KEY_LIMIT c = le-ltb _ _ c.if-number-lt-KEY_LIMIT.false ∙ sym (says-no (dec_key _) (λ (a, b). omega arith))
