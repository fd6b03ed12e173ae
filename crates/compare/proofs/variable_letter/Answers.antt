-- `compare::variable_letter` meets its contract. Assumes nothing.
use native.Mathlib.Omega.{arith}
use Rattle.compare.proofs.Letters.{variable_name_letter}
use Rattle.compare.proofs.variable_letter.Goals as goal

pub returns-in_default : goal.returns-in_default
returns-in_default c = variable_name_letter c.args.x.now c.args.k (λ e. omega arith) (λ e. omega arith) c.requires.1
