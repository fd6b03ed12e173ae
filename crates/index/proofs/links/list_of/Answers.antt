-- `index::links::list_of` meets its contract. Assumes nothing.
use native.Mathlib.Omega.{arith}
use mathlib.Core.Path.{sym, ◌∙◌}
use Rattle.index.proofs.Sites.{call-within, call_part, argument_part}
use Rattle.index.proofs.links.list_of.Goals as goal

pub slice_bounds-x-count : goal.slice_bounds-x-count
slice_bounds-x-count c = omega (arith, call-within c.args.b.now c.args.p c.requires)

pub slice_bounds-x-start : goal.slice_bounds-x-start
slice_bounds-x-start c = omega (arith, call-within c.args.b.now c.args.p c.requires)

pub call_argument-a-requires : goal.call_argument-a-requires
call_argument-a-requires c = call_part c.args.b.now c.args.p c.requires

pub slice_bounds-restriction_is_characterisable-count : goal.slice_bounds-restriction_is_characterisable-count
slice_bounds-restriction_is_characterisable-count c = omega (arith, (c.call_argument-a.ensures (call_part c.args.b.now c.args.p c.requires)).fits)

pub slice_bounds-restriction_is_characterisable-start : goal.slice_bounds-restriction_is_characterisable-start
slice_bounds-restriction_is_characterisable-start c = omega (arith, (c.call_argument-a.ensures (call_part c.args.b.now c.args.p c.requires)).fits)

pub restriction_is_characterisable-requires : goal.restriction_is_characterisable-requires
restriction_is_characterisable-requires c = argument_part c.args.b.now c.args.p c.requires c.call_argument-a.result (c.call_argument-a.ensures (call_part c.args.b.now c.args.p c.requires))

pub returns-then-restriction_is_characterisable : goal.returns-then-restriction_is_characterisable
returns-then-restriction_is_characterisable c = λ x. sym c.if-restriction_is_characterisable.true ∙ c.restriction_is_characterisable.ensures (argument_part c.args.b.now c.args.p x c.call_argument-a.result (c.call_argument-a.ensures (call_part c.args.b.now c.args.p x)))

pub returns-else-restriction_is_characterisable : goal.returns-else-restriction_is_characterisable
returns-else-restriction_is_characterisable c = λ x. sym c.if-restriction_is_characterisable.false ∙ c.restriction_is_characterisable.ensures (argument_part c.args.b.now c.args.p x c.call_argument-a.result (c.call_argument-a.ensures (call_part c.args.b.now c.args.p x)))
