-- `cleaning::rounds::clean_once` meets its contract. Assumes nothing.
use Prim.Native.Nat.{◌≤◌}
use Rattle.program.specs.Syntax.{Program}
use Rattle.cleaning.specs.RoundDone.{RoundReady, RoundAt}
use Rattle.cleaning.proofs.rounds.clean_once.Given as goal

abbrev pub invariant-loop-f : goal.invariant-loop-f
invariant-loop-f l = (l.f ≤ l.plan.functions) × ((w : Program) → RoundReady l.b w l.initial.work l.plan l.root l.round → RoundAt l.b w l.initial.work l.work l.plan l.round l.f l.changed)
