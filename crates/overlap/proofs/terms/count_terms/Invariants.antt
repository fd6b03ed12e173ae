-- `overlap::terms::count_terms` meets its contract: each term has a byte.
use Prim.Native.Nat.{◌-◌, ◌≤◌}
use lib.ListN.{length}
use Rattle.program.specs.Limits.{Mode}
use Rattle.image.specs.Parts.{TermsAt}
use Rattle.rows.proofs.Readings.{part}
use Rattle.overlap.proofs.terms.count_terms.Given as goal

abbrev pub invariant-loop-x : goal.invariant-loop-x
invariant-loop-x l = (l.i ≤ length l.s) × (l.n ≤ l.i) × TermsAt Mode.pattern (part l.s l.i)

abbrev pub decreases-loop-x : goal.decreases-loop-x
decreases-loop-x l = length l.s - l.i
