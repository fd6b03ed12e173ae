-- `index::classes::first_alike` meets its contract. Assumes nothing.
use Prim.Native.Nat.{◌-◌}
use mathlib.Core.List.{List}
use Rattle.program.specs.Syntax.{Name}
use Rattle.told.specs.Numbered.{Held}
use Rattle.index.specs.Lists.{ListAt, Among}
use Rattle.index.proofs.Alike.{Alike}
use Rattle.index.proofs.classes.first_alike.Given as goal

abbrev pub invariant-loop-j : goal.invariant-loop-j
invariant-loop-j l = (f : Name) (sites : List Held) (y : Held) → ListAt l.b l.work l.calls l.links l.n l.head f sites → Among f sites l.i y → Alike f sites y l.i l.j

abbrev pub decreases-loop-j : goal.decreases-loop-j
decreases-loop-j l = l.i - l.j
