-- `values::read::owed_after` meets its contract. Assumes nothing.
use native.Mathlib.Omega.{arith}
use Rattle.values.proofs.Turns.{owed-opening, owed-closing, owed-other}
use Rattle.values.proofs.read.owed_after.Goals as goal

pub returns-in-7 : goal.returns-in-7
returns-in-7 c = owed-opening c.args.m c.args.owed c.max-begun.result (omega arith) c.in-7.is

pub returns-in-15 : goal.returns-in-15
returns-in-15 c = owed-closing c.args.m c.args.owed c.max-begun.result (omega arith) c.in-15.is

pub returns-in_default : goal.returns-in_default
returns-in_default c = owed-other c.args.m c.args.owed c.max-begun.result (omega arith) (λ e. omega (arith, e)) (λ e. omega (arith, e))
