-- `report::entries::Entries::put_undecided` meets its contract. Assumes nothing.
use Prim.Native.Nat.{◌≤◌}
use Rattle.program.specs.Syntax.{Program}
use Rattle.told.specs.History.{is_there, after_all}
use Rattle.cleaning.specs.Indexed.{fell_of}
use Rattle.report.specs.Emitting.{Readable}
use Rattle.report.proofs.UndecidedLoops.{OverFunctions}
use Rattle.report.proofs.entries.Entries.put_undecided.Given as goal

-- The functions before f are told.
abbrev pub invariant-loop-f : goal.invariant-loop-f
invariant-loop-f l =
    ((w : Program) → Readable l.self.b.now w l.self.work.now l.self.plan → OverFunctions (is_there (fell_of l.self.plan l.self.work.now) after_all) l.self.b.now w l.initial.out l.f l.out l.told.count l.told.last)
    × (l.told.count ≤ l.out.filled)
