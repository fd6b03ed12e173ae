-- `restrictions::restriction_is_characterisable` meets its contract. Assumes nothing.
use Prim.Native.Nat.{◌+◌, ◌-◌, ◌≤◌}
use lib.ListN.{length}
use Rattle.program.specs.Limits.{Mode}
use Rattle.image.specs.Parts.{TermsAt}
use Rattle.restrictions.proofs.Within.{Within}
use Rattle.restrictions.proofs.restriction_is_characterisable.Given as goal

abbrev pub invariant-loop-closes : goal.invariant-loop-closes
invariant-loop-closes l = (l.i ≤ length l.s) × (l.closes ≤ l.i + 1) × ((t : TermsAt Mode.result l.s) → Within l.s l.i l.closes t)

abbrev pub decreases-loop-closes : goal.decreases-loop-closes
decreases-loop-closes l = length l.s - l.i
