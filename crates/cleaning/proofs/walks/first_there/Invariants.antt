-- `cleaning::walks::first_there` meets its contract. Assumes nothing.
use Prim.Native.Nat.{ℕ, ◌-◌}
use mathlib.Core.Bool.{Bool}
use mathlib.Core.List.{List}
use Rattle.program.specs.Syntax.{Name}
use Rattle.told.specs.Numbered.{Held}
use Rattle.index.specs.First.{First}
use Rattle.told.specs.Calls.{is_listed}
use Rattle.told.specs.History.{is_there}
use Rattle.cleaning.specs.Indexed.{fell_of}
use Rattle.cleaning.specs.Walks.{Walkable, is_there_listed}
use Rattle.cleaning.proofs.Walking.{Going}
use Rattle.cleaning.proofs.walks.first_there.Given as goal

abbrev pub invariant-loop-j : goal.invariant-loop-j
invariant-loop-j l =
    (kind : Bool) (f : Name) (sites : List Held) (q : ℕ) → Walkable kind f sites l.work l.plan → First (is_listed kind f) q sites l.i → Going (is_listed kind f) (is_there_listed (is_there (fell_of l.plan l.work) l.round) kind f) q sites l.j

abbrev pub decreases-loop-j : goal.decreases-loop-j
decreases-loop-j l = l.plan.sites - l.j
