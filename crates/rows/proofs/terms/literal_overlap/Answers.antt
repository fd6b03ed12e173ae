-- `rows::terms::literal_overlap` meets its contract.
use Rattle.patterns.specs.Search.{literal_overlap}
use Rattle.rows.proofs.terms.literal_overlap.Goals as goal

pub returns-then-equal : goal.returns-then-equal
unfolding literal_overlap
returns-then-equal c = rw c.if-equal.true

pub returns-else-equal : goal.returns-else-equal
unfolding literal_overlap
returns-else-equal c = rw c.if-equal.false
