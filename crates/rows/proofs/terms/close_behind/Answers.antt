-- `rows::terms::close_behind` meets its contract.
use borrow.Author.Tests.{eq-eqb, ne_eqb}
use Rattle.rows.specs.Rows.{closing}
use Rattle.rows.proofs.terms.close_behind.Goals as goal

pub returns-then-m-eq6 : goal.returns-then-m-eq6
unfolding closing
returns-then-m-eq6 c = simp (eq-eqb _ _ c.if-m-eq6.true)

pub returns : goal.returns
unfolding closing
returns c = simp (ne_eqb _ _ c.if-m-eq6.false)
