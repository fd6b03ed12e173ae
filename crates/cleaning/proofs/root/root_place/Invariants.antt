-- `cleaning::root::root_place` meets its contract. Assumes nothing.
use Prim.Native.Nat.{◌≤◌}
use mathlib.Core.List.{List}
use Rattle.program.specs.Syntax.{Function}
use Rattle.index.specs.Tabled.{Tabled}
use Rattle.cleaning.proofs.EntryPlace.{LocalTo}
use Rattle.cleaning.proofs.root.root_place.Given as goal

abbrev pub invariant-loop-f : goal.invariant-loop-f
invariant-loop-f l = (l.f ≤ l.functions) × ((fs : List Function) → Tabled l.b l.work l.functions fs → LocalTo fs l.f)
