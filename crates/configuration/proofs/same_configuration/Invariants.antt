-- `configuration::same_configuration` meets its contract. Assumes nothing.
use Prim.Native.Nat.{◌+◌, ◌-◌, ◌≤◌}
use lib.ListN.{length}
use Rattle.program.specs.Limits.{Mode}
use Rattle.image.specs.Parts.{TermsAt}
use Rattle.configuration.proofs.Lockstep.{Lockstep}
use Rattle.configuration.proofs.same_configuration.Given as goal

abbrev pub invariant-loop-closes : goal.invariant-loop-closes
invariant-loop-closes l = (l.i ≤ length l.a) × (l.closes ≤ l.i + 1) × ((p : TermsAt Mode.pattern l.a) (q : TermsAt Mode.pattern l.b) → Lockstep l.a l.b l.i l.j l.closes p q)

abbrev pub decreases-loop-closes : goal.decreases-loop-closes
decreases-loop-closes l = length l.a - l.i
