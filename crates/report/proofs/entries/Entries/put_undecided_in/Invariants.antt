-- `report::entries::Entries::put_undecided_in` meets its contract. Assumes nothing.
use Prim.Native.Nat.{◌≤◌}
use mathlib.Core.Path.{◌≡◌}
use mathlib.Core.Option.{some}
use lib.ListN.{get_elem?}
use Rattle.program.specs.Syntax.{Function, Program}
use Rattle.told.specs.History.{is_there, after_all}
use Rattle.cleaning.specs.Indexed.{fell_of}
use Rattle.report.specs.Emitting.{Readable}
use Rattle.report.proofs.UndecidedLoops.{InFunction}
use Rattle.report.proofs.entries.Entries.put_undecided_in.Given as goal

-- The sentences before s are told.
abbrev pub invariant-loop-s : goal.invariant-loop-s
invariant-loop-s l =
    ((w : Program) (x : Function) → Readable l.self.b.now w l.self.work.now l.self.plan → get_elem? w.functions l.f ≡ some x → InFunction (is_there (fell_of l.self.plan l.self.work.now) after_all) l.self.b.now w l.f x l.initial.out l.initial.told.count l.initial.told.last l.s l.out l.told.count l.told.last)
    × (l.told.count ≤ l.out.filled)
