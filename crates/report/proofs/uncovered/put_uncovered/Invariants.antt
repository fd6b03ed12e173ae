-- `report::uncovered::put_uncovered` meets its contract. Assumes nothing.
use Prim.Native.Nat.{◌+◌, ◌*◌, ◌≤◌}
use Rattle.program.specs.Syntax.{Program}
use Rattle.told.specs.History.{is_there, after_all}
use Rattle.cleaning.specs.Indexed.{fell_of}
use Rattle.cleaning.specs.Room.{Used}
use Rattle.report.specs.Emitting.{Readable}
use Rattle.report.proofs.UncoveredLoops.{OverFunctions}
use Rattle.report.proofs.uncovered.put_uncovered.Given as goal

-- The functions before f are told.
abbrev pub invariant-loop-f : goal.invariant-loop-f
invariant-loop-f l =
    ((w : Program) → Readable l.b w l.initial.work l.plan → OverFunctions (is_there (fell_of l.plan l.initial.work) after_all) l.b w l.initial.out l.f l.out l.told.count l.told.last)
    × (l.out.filled ≤ l.initial.out.filled + 655360000 * l.f) × (l.told.count ≤ l.out.filled) × Used l.plan l.initial.work l.work
