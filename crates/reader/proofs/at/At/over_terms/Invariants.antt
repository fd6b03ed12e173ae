-- `reader::at::At::over_terms` meets its contract. Assumes nothing.
use Rattle.reader.specs.Tally.{Stops}
use Rattle.reader.proofs.Passing.{spot}
use Rattle.reader.proofs.at.At.over_terms.Given as goal

abbrev pub invariant-loop-k : goal.invariant-loop-k
invariant-loop-k l = Stops l.b l.s l.top l.self.p (spot l.k l.p)
