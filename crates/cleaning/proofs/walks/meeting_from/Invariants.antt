-- `cleaning::walks::meeting_from` meets its contract. Assumes nothing.
use Prim.Native.Nat.{ℕ, ◌-◌}
use mathlib.Core.Path.{◌≡◌}
use mathlib.Core.Bool.{true}
use mathlib.Core.Option.{some}
use lib.ListN.{get_elem?, drop}
use Rattle.program.specs.Limits.{Mode}
use Rattle.image.specs.Parts.{TermsAt}
use Rattle.program.specs.Syntax.{Function, Program}
use Rattle.told.specs.Calls.{is_listed}
use Rattle.told.specs.Asked.{meets}
use Rattle.told.specs.History.{is_there}
use Rattle.told.specs.Numbered.{sites_of}
use Rattle.cleaning.specs.Indexed.{Indexed, fell_of}
use Rattle.cleaning.specs.Room.{Used}
use Rattle.cleaning.specs.Walks.{OnList, NoneMet}
use Rattle.cleaning.proofs.Walking.{Going}
use Rattle.cleaning.proofs.walks.meeting_from.Given as goal

-- The columns are as they were, the walk stays on the list, and nothing before it meets the pattern.
abbrev pub invariant-loop-j : goal.invariant-loop-j
invariant-loop-j l = Used l.plan l.initial.work l.work
    × ((w : Program) (f : ℕ) (x : Function) → Indexed l.b w l.initial.work l.plan → get_elem? w.functions f ≡ some x → OnList x.name (sites_of w) l.i
    → OnList x.name (sites_of w) l.j
    × ((t : TermsAt Mode.pattern (drop l.pattern l.b)) → NoneMet (is_there (fell_of l.plan l.initial.work) l.round) x.name t.terms (sites_of w) l.i
    → Going (is_listed true x.name) (meets (is_there (fell_of l.plan l.initial.work) l.round) x.name t.terms) 0 (sites_of w) l.j))

abbrev pub decreases-loop-j : goal.decreases-loop-j
decreases-loop-j l = l.plan.sites - l.j
