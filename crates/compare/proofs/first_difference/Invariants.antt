-- `compare::first_difference` meets its contract. Assumes nothing.
use Prim.Native.Nat.{◌-◌}
use mathlib.Core.Path.{◌≡◌}
use lib.ListN.{length}
use Rattle.program.specs.Limits.{Mode}
use Rattle.image.specs.Parts.{TermsAt}
use Rattle.compare.proofs.Same.{Keeping}
use Rattle.compare.proofs.first_difference.Given as goal

abbrev pub invariant-loop-x : goal.invariant-loop-x
invariant-loop-x l = record { first : l.at.nth ≡ 0; keeping : (t : TermsAt Mode.pattern l.a) (u : TermsAt Mode.pattern l.b) → Keeping t u l.at.token l.at.closes }

abbrev pub decreases-loop-x : goal.decreases-loop-x
decreases-loop-x l = length l.a - l.at.token
