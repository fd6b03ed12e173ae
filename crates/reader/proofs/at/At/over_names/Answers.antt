-- `reader::at::At::over_names` meets its contract. Assumes nothing.
use Rattle.reader.proofs.Passing.{stops-names}
use Rattle.reader.proofs.at.At.over_names.Goals as goal
use Rattle.reader.proofs.at.At.over_names.Goals.{in-Counted, in_default}

pub returns-in-Some : goal.returns-in-Some
returns-in-Some c = elim c.match-matches.branch [
  | in-Counted w ↦ stops-names c.args.self.now.b.now c.args.s.now c.args.n c.args.self.now.p c.in-Some.end c.requires.0 w.in-Counted.is (c.in-Some.ensures)
  | in_default w ↦ cc
]
