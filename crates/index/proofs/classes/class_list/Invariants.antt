-- `index::classes::class_list` meets its contract. Assumes nothing.
use Prim.Native.Nat.{◌-◌}
use mathlib.Core.List.{List}
use Rattle.program.specs.Syntax.{Name}
use Rattle.told.specs.Numbered.{Held}
use Rattle.index.specs.Lists.{ListAt}
use Rattle.index.proofs.Classing.{Classing}
use Rattle.index.proofs.classes.class_list.Given as goal

abbrev pub invariant-loop-i : goal.invariant-loop-i
invariant-loop-i l = (f : Name) (sites : List Held) → ListAt l.b l.initial.work l.calls l.links l.n l.head f sites → Classing f sites l.initial.work l.work l.links l.i

abbrev pub decreases-loop-i : goal.decreases-loop-i
decreases-loop-i l = l.n - l.i
