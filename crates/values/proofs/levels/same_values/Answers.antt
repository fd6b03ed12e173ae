-- `values::levels::same_values` meets its contract. Assumes nothing.
use mathlib.Core.Path.{◌∙◌}
use Rattle.values.proofs.Expressions.{value-level, same-told}
use Rattle.values.proofs.levels.same_values.Goals as goal

pub same_front-requires : goal.same_front-requires
same_front-requires c = (c.requires.0, value-level c.requires.1)

pub returns : goal.returns
unfolding value-level
returns c = λ u v. c.eq.ensures ∙ same-told u v c.same_front.result (c.same_front.ensures u (value-level v))
