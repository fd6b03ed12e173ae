-- `compare::code_byte` meets its contract. Assumes nothing.
use native.Mathlib.Omega.{arith}
use mathlib.Core.Path.{◌∙◌}
use Rattle.compare.proofs.Letters.{place, two_bytes, three_bytes, four_bytes, only_byte, second_of_two, third_of_three, fourth_of_four}
use Rattle.compare.proofs.code_byte.Goals as goal

pub returns-in-0-to-127 : goal.returns-in-0-to-127
returns-in-0-to-127 c = only_byte c.args.code c.args.k c.requires.1 (omega arith)

pub returns-in-0 : goal.returns-in-0
returns-in-0 c = c.lead_of_two.ensures ∙ place 0 c.args.k (two_bytes c.args.code (omega arith) (omega arith)) c.in-0.is

pub returns-in_default-k : goal.returns-in_default-k
returns-in_default-k c = c.trail.ensures ∙ place 1 c.args.k (two_bytes c.args.code (omega arith) (omega arith)) (second_of_two c.args.code c.args.k c.requires.1 (omega arith) (omega arith) (λ e. omega arith))

pub returns-in-0-k : goal.returns-in-0-k
returns-in-0-k c = c.lead_of_three.ensures ∙ place 0 c.args.k (three_bytes c.args.code (omega arith) (omega arith)) c.in-0-k.is

pub returns-in-1 : goal.returns-in-1
returns-in-1 c = c.trail-in-1.ensures ∙ place 1 c.args.k (three_bytes c.args.code (omega arith) (omega arith)) c.in-1.is

pub returns-in_default-k-2 : goal.returns-in_default-k-2
returns-in_default-k-2 c = c.trail-in_default-k-2.ensures ∙ place 2 c.args.k (three_bytes c.args.code (omega arith) (omega arith)) (third_of_three c.args.code c.args.k c.requires.1 (omega arith) (omega arith) (λ e. omega arith) (λ e. omega arith))

pub returns-in-0-k-2 : goal.returns-in-0-k-2
returns-in-0-k-2 c = c.lead_of_four.ensures ∙ place 0 c.args.k (four_bytes c.args.code (omega arith)) c.in-0-k-2.is

pub returns-in-1-k : goal.returns-in-1-k
returns-in-1-k c = c.trail-in-1-k.ensures ∙ place 1 c.args.k (four_bytes c.args.code (omega arith)) c.in-1-k.is

pub returns-in-2 : goal.returns-in-2
returns-in-2 c = c.trail-in-2.ensures ∙ place 2 c.args.k (four_bytes c.args.code (omega arith)) c.in-2.is

pub returns-in_default-k-3 : goal.returns-in_default-k-3
returns-in_default-k-3 c = c.trail-in_default-k-3.ensures ∙ place 3 c.args.k (four_bytes c.args.code (omega arith)) (fourth_of_four c.args.code c.args.k c.requires.1 (omega arith) (λ e. omega arith) (λ e. omega arith) (λ e. omega arith))
