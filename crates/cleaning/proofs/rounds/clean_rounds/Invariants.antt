-- `cleaning::rounds::clean_rounds` meets its contract. Assumes nothing.
use Prim.Native.Nat.{suc, ◌-◌}
use Rattle.program.specs.Syntax.{Program}
use Rattle.cleaning.specs.RoundDone.{RoundsReady}
use Rattle.cleaning.proofs.AllRounds.{RoundsAt}
use Rattle.cleaning.proofs.rounds.clean_rounds.Given as goal

abbrev pub invariant-loop-plan : goal.invariant-loop-plan
invariant-loop-plan l = (w : Program) → RoundsReady l.b w l.initial.work l.plan l.root → RoundsAt l.b w l.initial.work l.work l.plan l.root l.round

abbrev pub decreases-loop-plan : goal.decreases-loop-plan
decreases-loop-plan l = suc l.plan.sentences - l.round
