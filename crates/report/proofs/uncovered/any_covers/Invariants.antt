-- `report::uncovered::any_covers` meets its contract. Assumes nothing.
use mathlib.Core.Path.{◌≡◌}
use mathlib.Core.Bool.{true}
use mathlib.Core.Option.{some}
use lib.ListN.{get_elem?}
use Rattle.program.specs.Syntax.{Function, Program}
use Rattle.told.specs.Numbered.{Held, sites_of}
use Rattle.told.specs.Calls.{is_listed}
use Rattle.told.specs.History.{is_there, after_all}
use Rattle.cleaning.specs.Indexed.{fell_of}
use Rattle.cleaning.specs.Room.{Used}
use Rattle.report.specs.Emitting.{Readable}
use Rattle.report.proofs.UncoveredLists.{Uncovering}
use Rattle.report.proofs.uncovered.any_covers.Given as goal

-- No sentence before s covers the argument.
abbrev pub invariant-loop-s : goal.invariant-loop-s
invariant-loop-s l =
    ((w : Program) (x : Function) (y : Held) → Readable l.b w l.initial.work l.plan → get_elem? w.functions l.f ≡ some x → get_elem? (sites_of w) l.i ≡ some y → is_listed true x.name y ≡ true → is_there (fell_of l.plan l.initial.work) after_all y.sentence ≡ true
    → Uncovering (is_there (fell_of l.plan l.initial.work) after_all) w l.f y.site.argument l.s)
    × Used l.plan l.initial.work l.work
