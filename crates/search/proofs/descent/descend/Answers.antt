-- `descent::descend` meets its contract. Assumes nothing.
use mathlib.Core.Path.{◌∙◌}
use Rattle.search.proofs.descent.descend.Goals as goal

pub returns : goal.returns
returns c =
    let r = c.reach-r.ensures in
    let a = c.in_leaf-answer.ensures ∙ r.is_answer in
    λ i. record { answer = a i; path = r.is_path i; compared = r.is_compared i }
