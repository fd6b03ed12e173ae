-- `report::decided::is_decided` meets its contract. Assumes nothing.
use Prim.Native.Nat.{◌-◌}
use mathlib.Core.Bool.{true}
use Rattle.program.specs.Sentences.{Sentence}
use Rattle.program.specs.Syntax.{Function, Program}
use Rattle.told.specs.Numbered.{sites_of}
use Rattle.told.specs.Calls.{is_listed}
use Rattle.told.specs.History.{is_there, after_all}
use Rattle.cleaning.specs.Indexed.{fell_of}
use Rattle.cleaning.specs.Room.{Used}
use Rattle.cleaning.specs.Walks.{Owns}
use Rattle.told.specs.ToldReport.{overlaps}
use Rattle.cleaning.proofs.Walking.{Going}
use Rattle.report.specs.Emitting.{Readable}
use Rattle.report.proofs.decided.is_decided.Given as goal

-- Nothing before i overlaps, and i is on the list.
abbrev pub invariant-loop-i : goal.invariant-loop-i
invariant-loop-i l =
    ((w : Program) (x : Function) (y : Sentence) → Readable l.b w l.initial.work l.plan → Owns w l.f x l.s y
    → Going (is_listed true x.name) (overlaps (is_there (fell_of l.plan l.initial.work) after_all) x.name y.pattern) 0 (sites_of w) l.i)
    × Used l.plan l.initial.work l.work

abbrev pub decreases-loop-i : goal.decreases-loop-i
decreases-loop-i l = l.plan.sites - l.i
