-- `configuration::same_numbering` meets its contract. Assumes nothing.
use native.Mathlib.Omega.{arith}
use mathlib.Core.Path.{sym, ◌∙◌}
use Rattle.configuration.proofs.Tokens.{pattern-room, variable-room, variable-name}
use Rattle.configuration.proofs.Alike.{one_part, two_part, walked-within, no_variables, second-low, second-high, two_variables}
use Rattle.configuration.proofs.same_numbering.Goals as goal

pub slice_bounds-u-count : goal.slice_bounds-u-count
slice_bounds-u-count c = omega (arith, walked-within c.args.a.now c.args.b.now c.args.i c.args.j c.requires)

pub slice_bounds-u-start : goal.slice_bounds-u-start
slice_bounds-u-start c = omega (arith, walked-within c.args.a.now c.args.b.now c.args.i c.args.j c.requires)

pub slice_bounds-u-end : goal.slice_bounds-u-end
slice_bounds-u-end c = omega arith

pub slice_bounds-v-count : goal.slice_bounds-v-count
slice_bounds-v-count c = omega (arith, walked-within c.args.a.now c.args.b.now c.args.i c.args.j c.requires)

pub slice_bounds-v-start : goal.slice_bounds-v-start
slice_bounds-v-start c = omega (arith, walked-within c.args.a.now c.args.b.now c.args.i c.args.j c.requires)

pub slice_bounds-v-end : goal.slice_bounds-v-end
slice_bounds-v-end c = omega arith

pub bounds-u-0 : goal.bounds-u-0
bounds-u-0 c = pattern-room (one_part c.args.a.now c.args.b.now c.args.i c.args.j c.requires)

pub returns-in_default : goal.returns-in_default
returns-in_default c = λ w. sym (no_variables c.args.a.now c.args.b.now c.args.i c.args.j w (λ l u. omega arith))

pub returns-in_default-2 : goal.returns-in_default-2
returns-in_default-2 c = λ w. sym (no_variables c.args.a.now c.args.b.now c.args.i c.args.j w (λ l u. omega arith))

pub slice_bounds-name_part-count : goal.slice_bounds-name_part-count
slice_bounds-name_part-count c =
    let w = c.requires in
    let a = one_part c.args.a.now c.args.b.now c.args.i c.args.j w in
    omega (arith, variable-room a (omega arith) (omega arith))

pub slice_bounds-name_part-start : goal.slice_bounds-name_part-start
slice_bounds-name_part-start c =
    let w = c.requires in
    let a = one_part c.args.a.now c.args.b.now c.args.i c.args.j w in
    omega (arith, variable-room a (omega arith) (omega arith))

pub name_part-requires : goal.name_part-requires
name_part-requires c = variable-name (one_part c.args.a.now c.args.b.now c.args.i c.args.j c.requires) (omega arith) (omega arith)

pub slice_bounds-name_part-count-in-4-to-6 : goal.slice_bounds-name_part-count-in-4-to-6
slice_bounds-name_part-count-in-4-to-6 c =
    let w = c.requires in
    let b = two_part c.args.a.now c.args.b.now c.args.i c.args.j w in
    omega (arith, variable-room b (second-low c.args.a.now c.args.b.now c.args.i c.args.j c.requires (omega arith) (omega arith)) (second-high c.args.a.now c.args.b.now c.args.i c.args.j c.requires (omega arith) (omega arith)))

pub slice_bounds-name_part-start-in-4-to-6 : goal.slice_bounds-name_part-start-in-4-to-6
slice_bounds-name_part-start-in-4-to-6 c =
    let w = c.requires in
    let b = two_part c.args.a.now c.args.b.now c.args.i c.args.j w in
    omega (arith, variable-room b (second-low c.args.a.now c.args.b.now c.args.i c.args.j c.requires (omega arith) (omega arith)) (second-high c.args.a.now c.args.b.now c.args.i c.args.j c.requires (omega arith) (omega arith)))

pub name_part-requires-in-4-to-6 : goal.name_part-requires-in-4-to-6
name_part-requires-in-4-to-6 c = variable-name (two_part c.args.a.now c.args.b.now c.args.i c.args.j c.requires) (second-low c.args.a.now c.args.b.now c.args.i c.args.j c.requires (omega arith) (omega arith)) (second-high c.args.a.now c.args.b.now c.args.i c.args.j c.requires (omega arith) (omega arith))

pub first_seen_alike-requires : goal.first_seen_alike-requires
first_seen_alike-requires c = (omega (arith, walked-within c.args.a.now c.args.b.now c.args.i c.args.j c.requires), omega (arith, walked-within c.args.a.now c.args.b.now c.args.i c.args.j c.requires), c.requires.walked)

pub returns-in-4-to-6 : goal.returns-in-4-to-6
returns-in-4-to-6 c = λ w.
    c.first_seen_alike.ensures w.walked
    ∙ two_variables c.args.a.now c.args.b.now c.args.i c.args.j w (omega arith) (omega arith) c.name_part.result.now c.name_part-in-4-to-6.result.now
    (c.name_part.ensures (variable-name (one_part c.args.a.now c.args.b.now c.args.i c.args.j w) (omega arith) (omega arith)))
    (c.name_part-in-4-to-6.ensures (variable-name (two_part c.args.a.now c.args.b.now c.args.i c.args.j w) (second-low c.args.a.now c.args.b.now c.args.i c.args.j w (omega arith) (omega arith)) (second-high c.args.a.now c.args.b.now c.args.i c.args.j w (omega arith) (omega arith))))
