-- `cleaning::rounds::first_sentence` meets its contract. Assumes nothing.
use native.Mathlib.Omega.{arith}
use mathlib.Core.Path.{◌∙◌}
use Rattle.cleaning.proofs.Dropping.{first_in_lem, first_past}
use Rattle.cleaning.proofs.rounds.first_sentence.Goals as goal

pub returns-then-f-plan : goal.returns-then-f-plan
returns-then-f-plan c = λ b w d. c.from.ensures.1 ∙ first_in_lem d c.args.f c.if-f-plan.true

pub returns : goal.returns
returns c = λ b w d. first_past d c.args.f (omega (arith, c.if-f-plan.false, c.requires.1))
