-- `values::read::depth_after` meets its contract. Assumes nothing.
use native.Mathlib.Omega.{arith}
use Rattle.values.proofs.Turns.{depth_opening, depth_closed, depth_other}
use Rattle.values.proofs.read.depth_after.Goals as goal

pub returns-in-7 : goal.returns-in-7
returns-in-7 c = (depth_opening c.args.m c.args.depth c.in-7.is, λ e. absurd (omega (arith, e)))

pub returns-in-15 : goal.returns-in-15
returns-in-15 c = depth_closed c.args.m c.args.depth c.in-15.is c.checked_sub.result c.checked_sub.ensures

pub returns-in_default : goal.returns-in_default
returns-in_default c = (depth_other c.args.m c.args.depth (λ e. omega (arith, e)) (λ e. omega (arith, e)), λ e. absurd (omega (arith, e)))
