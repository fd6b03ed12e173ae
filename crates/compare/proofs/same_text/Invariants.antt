-- `compare::same_text` meets its contract. Assumes nothing.
use Prim.Native.Nat.{◌-◌, ◌*◌}
use lib.ListN.{length}
use Rattle.program.specs.Limits.{Mode}
use Rattle.image.specs.Parts.{TermsAt}
use Rattle.compare.proofs.Cursor.{Comparing}
use Rattle.compare.proofs.same_text.Given as goal

abbrev pub invariant-loop-one : goal.invariant-loop-one
invariant-loop-one l = (t : TermsAt Mode.pattern l.a) (u : TermsAt Mode.pattern l.b) → Comparing t u l.one.token l.one.nth l.one.closes l.two.token l.two.nth l.two.closes

abbrev pub decreases-loop-one : goal.decreases-loop-one
decreases-loop-one l = 2 * (length l.a - l.one.token) - l.one.nth
