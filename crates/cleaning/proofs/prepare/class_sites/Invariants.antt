-- `cleaning::prepare::class_sites` meets its contract. Assumes nothing.
use Prim.Native.Nat.{◌≤◌}
use Rattle.program.specs.Syntax.{Program}
use Rattle.cleaning.specs.Prepared.{Chains, ClassesWritten}
use Rattle.cleaning.proofs.prepare.class_sites.Given as goal

abbrev pub invariant-loop-f : goal.invariant-loop-f
invariant-loop-f l = (l.f ≤ l.plan.functions) × ((w : Program) → Chains l.b w l.initial.work l.plan → ClassesWritten w l.initial.work l.work l.plan l.f)
