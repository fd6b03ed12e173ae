-- `restrictions::call_argument` meets its contract. Assumes nothing.
use native.Mathlib.Omega.{arith}
use Rattle.restrictions.proofs.Calls.{call-room, argument_passes}
use Rattle.restrictions.proofs.call_argument.Goals as goal

pub bounds-s-9 : goal.bounds-s-9
bounds-s-9 c = call-room c.requires

pub overflow_cast-result : goal.overflow_cast-result
overflow_cast-result c = omega (arith, (argument_passes c.requires).fits)

pub overflow_add-result : goal.overflow_add-result
overflow_add-result c = omega (arith, (argument_passes c.requires).fits)

pub returns : goal.returns
returns c = λ x. argument_passes x
