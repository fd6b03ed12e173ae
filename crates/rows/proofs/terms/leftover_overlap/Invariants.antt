-- `rows::terms::leftover_overlap` meets its contract.
use Prim.Native.Nat.{◌-◌, ◌≤◌}
use lib.ListN.{length}
use Rattle.program.specs.Limits.{Mode}
use Rattle.image.specs.Parts.{TermsAt}
use Rattle.rows.proofs.Leaving.{Leaving}
use Rattle.rows.proofs.terms.leftover_overlap.Given as goal

abbrev pub invariant-loop-x : goal.invariant-loop-x
invariant-loop-x l = (l.i ≤ length l.s) × ((p : TermsAt Mode.pattern l.s) → Leaving l.s l.i p)

abbrev pub decreases-loop-x : goal.decreases-loop-x
decreases-loop-x l = length l.s - l.i
