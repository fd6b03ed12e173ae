-- `index::names::function_name` meets its contract. Assumes nothing.
use native.Mathlib.Omega.{arith}
use Rattle.index.proofs.Functions.{function-room, name-at}
use Rattle.index.proofs.names.function_name.Goals as goal

pub overflow_add-at : goal.overflow_add-at
overflow_add-at c = omega (arith, function-room c.args.b.now c.args.p c.requires)

pub slice_bounds-name_part-count : goal.slice_bounds-name_part-count
slice_bounds-name_part-count c = omega (arith, function-room c.args.b.now c.args.p c.requires)

pub slice_bounds-name_part-start : goal.slice_bounds-name_part-start
slice_bounds-name_part-start c = omega (arith, function-room c.args.b.now c.args.p c.requires)

pub name_part-requires : goal.name_part-requires
name_part-requires c = name-at c.args.b.now c.args.p c.requires

pub returns : goal.returns
returns c = λ x. c.name_part.ensures (name-at c.args.b.now c.args.p x)
