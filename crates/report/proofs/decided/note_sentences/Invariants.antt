-- `report::decided::note_sentences` meets its contract. Assumes nothing.
use mathlib.Core.Path.{◌≡◌}
use mathlib.Core.Option.{some}
use lib.ListN.{get_elem?}
use Rattle.program.specs.Syntax.{Function, Program}
use Rattle.report.specs.Emitting.{Readable}
use Rattle.report.specs.Notes.{OpenUpto}
use Rattle.report.proofs.decided.note_sentences.Given as goal

-- The sentences before s have been asked.
abbrev pub invariant-loop-s : goal.invariant-loop-s
invariant-loop-s l = (w : Program) (x : Function) → Readable l.b w l.initial.work l.plan → get_elem? w.functions l.f ≡ some x → OpenUpto w l.initial.work l.work l.plan l.f x l.s
