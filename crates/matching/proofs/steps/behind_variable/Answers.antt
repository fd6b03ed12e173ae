-- `matching::steps::behind_variable` meets its contract. Assumes nothing.
use native.Mathlib.Omega.{arith}
use Prim.Native.Nat.{◌+◌}
use Rattle.matching.proofs.Taking.{name_byte, variable-length, behind-variable}
use Rattle.matching.proofs.steps.behind_variable.Goals as goal

pub overflow_add-result : goal.overflow_add-result
overflow_add-result c = omega (arith, variable-length c.args.body.now c.args.p c.requires)

pub overflow_add-result-2 : goal.overflow_add-result-2
overflow_add-result-2 c = omega (arith, c.from.ensures, name_byte c.args.body.now c.args.p c.requires, variable-length c.args.body.now c.args.p c.requires)

pub bounds-body-p : goal.bounds-body-p
bounds-body-p c = omega (arith, variable-length c.args.body.now c.args.p c.requires)

pub overflow_add-p : goal.overflow_add-p
overflow_add-p c = omega (arith, variable-length c.args.body.now c.args.p c.requires)

pub returns : goal.returns
returns c = λ x. behind-variable c.args.body.now c.args.p x (c.args.p + 10 + c.from.result) (omega (arith, c.from.ensures))
