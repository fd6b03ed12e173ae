-- `matching::taken::any_end` meets its contract. Assumes nothing.
use native.Mathlib.Omega.{arith}
use Rattle.matching.proofs.Taking.{variable-at, level-here}
use Rattle.matching.proofs.Splitting.{behind-nil, behind-some, behind-there, takes_all, takes_nothing, value-within}
use Rattle.matching.proofs.taken.any_end.Goals as goal

pub behind_variable-next-requires : goal.behind_variable-next-requires
behind_variable-next-requires c = variable-at c.requires

pub bounds-body-next : goal.bounds-body-next
unfolding variable-at
bounds-body-next c = let q = c.requires in omega (arith, behind-there q c.behind_variable-next.result (c.behind_variable-next.ensures (variable-at q)).0)

pub value_len-requires : goal.value_len-requires
value_len-requires c = level-here c.requires.at

pub overflow_add-result : goal.overflow_add-result
unfolding level-here
overflow_add-result c = let q = c.requires in omega (arith, value-within q, (c.value_len.ensures (level-here q.at)).bytes, q.at.within)

pub returns-then-body-next-eq15 : goal.returns-then-body-next-eq15
unfolding variable-at level-here
returns-then-body-next-eq15 c = λ q b k e. takes_all q b k e (behind-nil q c.behind_variable-next.result (c.behind_variable-next.ensures (variable-at q)).0 c.if-body-next-eq15.true) c.value_len.result (c.value_len.ensures (level-here q.at)).bytes

pub returns : goal.returns
unfolding variable-at
returns c = λ q b k e. takes_nothing q b k e (behind-some q c.behind_variable-next.result (c.behind_variable-next.ensures (variable-at q)).0 c.if-body-next-eq15.false)
