-- `report::notes::note_list` meets its contract. Assumes nothing.
use Prim.Native.Nat.{ℕ, ◌-◌}
use mathlib.Core.Path.{◌≡◌}
use mathlib.Core.List.{List}
use mathlib.Core.Option.{some}
use lib.ListN.{get_elem?}
use Rattle.program.specs.Syntax.{Function, Program}
use Rattle.told.specs.Numbered.{sites_of}
use Rattle.cleaning.specs.Indexed.{Indexed}
use Rattle.report.specs.Notes.{Noting}
use Rattle.report.proofs.notes.note_list.Given as goal

-- The sites of the list before i are noted, for every reading of work.
abbrev pub invariant-loop-i : goal.invariant-loop-i
invariant-loop-i l = (b : List ℕ) (w : Program) (x : Function) → Indexed b w l.initial.work l.plan → get_elem? w.functions l.f ≡ some x → Noting x.name (sites_of w) l.initial.work l.work l.plan l.i

abbrev pub decreases-loop-i : goal.decreases-loop-i
decreases-loop-i l = l.plan.sites - l.i
