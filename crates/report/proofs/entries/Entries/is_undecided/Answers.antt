-- `report::entries::Entries::is_undecided` meets its contract. Assumes nothing.
use Rattle.report.proofs.OpenNotes.{open_read}
use Rattle.report.proofs.entries.Entries.is_undecided.Goals as goal

pub returns : goal.returns
returns c = let a = c.args in open_read a.self.now.plan a.self.now.work.now c.lines.result a.s c.lines.ensures
