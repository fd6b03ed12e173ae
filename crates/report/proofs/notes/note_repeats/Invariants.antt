-- `report::notes::note_repeats` meets its contract. Assumes nothing.
use Prim.Native.Nat.{ℕ}
use mathlib.Core.List.{List}
use Rattle.program.specs.Syntax.{Program}
use Rattle.cleaning.specs.Indexed.{Indexed}
use Rattle.report.specs.Notes.{NotesWritten}
use Rattle.report.proofs.notes.note_repeats.Given as goal

-- The sites of the functions before f are noted, for every reading of work.
abbrev pub invariant-loop-f : goal.invariant-loop-f
invariant-loop-f l = (b : List ℕ) (w : Program) → Indexed b w l.initial.work l.plan → NotesWritten w l.initial.work l.work l.plan l.f
