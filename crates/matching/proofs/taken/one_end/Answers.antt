-- `matching::taken::one_end` meets its contract. Assumes nothing.
use native.Mathlib.Omega.{arith}
use Rattle.matching.proofs.Meeting.{pattern-there}
use Rattle.matching.proofs.Taking.{level-here}
use Rattle.matching.proofs.Splitting.{none-at_end, none_at_close, none_at_bracket, some-value, takes_one, value-within}
use Rattle.matching.proofs.taken.one_end.Goals as goal
use Rattle.matching.proofs.taken.one_end.Goals.{else-m-eq7-via-then-m-eq7+else-body-at-eq4, else-m-eq7-via-else-m-eq7}

pub returns-then-at : goal.returns-then-at
returns-then-at c = λ q b k e. none-at_end q b k c.if-at.true

pub returns-then-m-eq15 : goal.returns-then-m-eq15
returns-then-m-eq15 c = λ q b k e. none_at_close q b k c.if-m-eq15.true

pub returns-then-body-at-eq4 : goal.returns-then-body-at-eq4
returns-then-body-at-eq4 c = λ q b k e. none_at_bracket q b k c.if-body-at-eq4.true c.if-m-eq7.true

pub bounds-body-at : goal.bounds-body-at
bounds-body-at c = omega (arith, pattern-there c.requires.at)

pub term_end-requires : goal.term_end-requires
unfolding level-here
term_end-requires c = let q = c.requires in (level-here q.at, some-value q c.if-at.false c.if-m-eq15.false)

pub overflow_add-result : goal.overflow_add-result
unfolding level-here
overflow_add-result c = let q = c.requires in omega (arith, value-within q, c.term_end.ensures (level-here q.at), q.at.within)

pub returns : goal.returns
unfolding level-here
returns c = λ q b k e.
    takes_one q b k e (some-value q c.if-at.false c.if-m-eq15.false)
    (λ f g. elim c.else-m-eq7.branch [ else-m-eq7-via-then-m-eq7+else-body-at-eq4 w ↦ w.if-body-at-eq4.false f | else-m-eq7-via-else-m-eq7 w ↦ w.if-m-eq7.false g ]) c.term_end.result (c.term_end.ensures (level-here q.at))
