-- `restrictions::call_name` meets its contract. Assumes nothing.
use native.Mathlib.Omega.{arith}
use Rattle.restrictions.proofs.Calls.{call-room, callee_at}
use Rattle.restrictions.proofs.call_name.Goals as goal

pub slice_bounds-name_part-count : goal.slice_bounds-name_part-count
slice_bounds-name_part-count c = omega (arith, call-room c.requires)

pub slice_bounds-name_part-start : goal.slice_bounds-name_part-start
slice_bounds-name_part-start c = omega (arith, call-room c.requires)

pub name_part-requires : goal.name_part-requires
name_part-requires c = callee_at c.requires

pub returns : goal.returns
returns c = λ x. c.name_part.ensures (callee_at x)
