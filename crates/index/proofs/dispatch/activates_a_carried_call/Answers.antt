-- `index::dispatch::activates_a_carried_call` meets its contract. Assumes nothing.
use mathlib.Core.Path.{sym, ◌∙◌}
use Rattle.index.proofs.Carried.{carried_mu, carried_up}
use Rattle.index.proofs.dispatch.activates_a_carried_call.Goals as goal

-- GONE
-- slice-aggregate-same-name : tie.Need-slice-aggregate-same-name
-- slice-aggregate-same-name c = search rules

pub returns-then-same_name : goal.returns-then-same_name
returns-then-same_name c = sym (carried_mu c.args.name.now (sym c.same_name.ensures ∙ c.if-same_name.true))

-- GONE
-- slice-aggregate-same-name-2 : tie.Need-slice-aggregate-same-name-2
-- slice-aggregate-same-name-2 c = search rules

pub returns : goal.returns
returns c = c.same_name-2.ensures ∙ sym (carried_up c.args.name.now (sym c.same_name.ensures ∙ c.if-same_name.false))
