-- `report::uncovered::put_uncovered_in` meets its contract. Assumes nothing.
use Prim.Native.Nat.{◌-◌, ◌≤◌}
use mathlib.Core.Path.{◌≡◌}
use mathlib.Core.Option.{some}
use lib.ListN.{get_elem?}
use Rattle.program.specs.Syntax.{Function, Program}
use Rattle.told.specs.Numbered.{sentences_before}
use Rattle.told.specs.History.{is_there, after_all}
use Rattle.cleaning.specs.Indexed.{fell_of}
use Rattle.cleaning.specs.Room.{Used}
use Rattle.report.specs.Emitting.{Readable}
use Rattle.report.proofs.UncoveredLoops.{OnSites}
use Rattle.report.proofs.uncovered.put_uncovered_in.Given as goal

-- The sites before i are told.
abbrev pub invariant-loop-i : goal.invariant-loop-i
invariant-loop-i l =
    ((w : Program) (x : Function) → Readable l.b w l.initial.work l.plan → get_elem? w.functions l.f ≡ some x
    → OnSites (is_there (fell_of l.plan l.initial.work) after_all) l.b w x (sentences_before l.f w.functions) l.initial.out l.initial.told.count l.initial.told.last l.i l.out l.told.count l.told.last)
    × (l.told.count ≤ l.out.filled) × Used l.plan l.initial.work l.work

abbrev pub decreases-loop-i : goal.decreases-loop-i
decreases-loop-i l = l.plan.sites - l.i
