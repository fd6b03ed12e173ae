-- `matching::taken::taken_end` meets its contract. Assumes nothing.
use native.Mathlib.Omega.{arith}
use Rattle.matching.proofs.Meeting.{pattern-there}
use Rattle.matching.proofs.Splitting.{is_any, is_one}
use Rattle.matching.proofs.taken.taken_end.Goals as goal

pub bounds-body-at : goal.bounds-body-at
bounds-body-at c = omega (arith, pattern-there c.requires.at)

pub returns-then-body-at-eq6 : goal.returns-then-body-at-eq6
returns-then-body-at-eq6 c = λ q b e. c.any_end.ensures q b (is_any q c.if-body-at-eq6.true) e

pub returns : goal.returns
returns c = λ q b e. c.one_end.ensures q b (is_one q c.if-body-at-eq6.false) e
