-- `matching::bindings::same_variable` meets its contract. Assumes nothing.
use native.Mathlib.Omega.{arith}
use mathlib.Core.Path.{ap₂, ◌∙◌}
use Rattle.patterns.specs.Names.{same_name}
use Rattle.symbols.proofs.Parts.{part_rest}
use Rattle.matching.proofs.Variables.{variable-room, name-at, name-is, kinds_differ, kinds_same}
use Rattle.matching.proofs.bindings.same_variable.Goals as goal

pub bounds-a-0 : goal.bounds-a-0
bounds-a-0 c = omega (arith, variable-room c.requires.0)

pub bounds-b-0 : goal.bounds-b-0
bounds-b-0 c = omega (arith, variable-room c.requires.1)

pub returns-then-a-b : goal.returns-then-a-b
returns-then-a-b c = λ x y. kinds_differ x y c.if-a-b.true

pub slice_bounds-name_part-count : goal.slice_bounds-name_part-count
slice_bounds-name_part-count c = omega (arith, variable-room c.requires.0)

pub slice_bounds-name_part-start : goal.slice_bounds-name_part-start
slice_bounds-name_part-start c = omega (arith, variable-room c.requires.0)

pub name_part-x-requires : goal.name_part-x-requires
name_part-x-requires c = rw part_rest (name-at c.requires.0)

pub slice_bounds-name_part-count-2 : goal.slice_bounds-name_part-count-2
slice_bounds-name_part-count-2 c = omega (arith, variable-room c.requires.1)

pub slice_bounds-name_part-start-2 : goal.slice_bounds-name_part-start-2
slice_bounds-name_part-start-2 c = omega (arith, variable-room c.requires.1)

pub name_part-y-requires : goal.name_part-y-requires
name_part-y-requires c = rw part_rest (name-at c.requires.1)

pub returns : goal.returns
returns c = λ x y.
    c.same_name.ensures
    ∙ ap₂ same_name (name-is x (rw part_rest at c.name_part-x.ensures)) (name-is y (rw part_rest at c.name_part-y.ensures))
    ∙ kinds_same x y c.if-a-b.false
