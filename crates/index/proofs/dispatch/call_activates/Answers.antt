-- `index::dispatch::call_activates` meets its contract. Assumes nothing.
use native.Mathlib.Omega.{arith}
use mathlib.Core.Path.{ap, ◌∙◌}
use Rattle.meaning.specs.Dispatch.{activates_acarried_call}
use Rattle.index.proofs.Sites.{call-within, call_part}
use Rattle.index.proofs.dispatch.call_activates.Goals as goal

pub slice_bounds-call_name-count : goal.slice_bounds-call_name-count
slice_bounds-call_name-count c = omega (arith, call-within c.args.b.now c.args.p c.requires)

pub slice_bounds-call_name-start : goal.slice_bounds-call_name-start
slice_bounds-call_name-start c = omega (arith, call-within c.args.b.now c.args.p c.requires)

pub call_name-requires : goal.call_name-requires
call_name-requires c = call_part c.args.b.now c.args.p c.requires

pub returns : goal.returns
returns c = λ x. c.activates_a_carried_call.ensures ∙ ap activates_acarried_call (c.call_name.ensures (call_part c.args.b.now c.args.p x))
