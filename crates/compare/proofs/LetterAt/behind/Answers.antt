-- `compare::LetterAt::behind` meets its contract. Assumes nothing.
use native.Mathlib.Omega.{arith}
use Rattle.compare.proofs.Letters.{letters-short}
use Rattle.compare.proofs.LetterAt.behind.Goals as goal

pub overflow_add-result-else-is_last : goal.overflow_add-result-else-is_last
overflow_add-result-else-is_last c = omega (arith, letters-short c.args.x.inside, c.args.x.inside.within, c.requires.0)
