-- `report::decided::note_undecided` meets its contract. Assumes nothing.
use Rattle.program.specs.Syntax.{Program}
use Rattle.report.specs.Emitting.{Readable}
use Rattle.report.specs.Notes.{DecidedUpto}
use Rattle.report.proofs.decided.note_undecided.Given as goal

-- The functions before f have been asked.
abbrev pub invariant-loop-f : goal.invariant-loop-f
invariant-loop-f l = (w : Program) → Readable l.b w l.initial.work l.plan → DecidedUpto w l.initial.work l.work l.plan l.f
