-- `image::part::past` meets its contract. Assumes nothing.
use Rattle.image.proofs.Skip.{Passed}
use lib.ListN.{length}
use Prim.Native.Nat.{◌+◌, ◌*◌, ◌-◌, ◌≤◌}
use Rattle.image.proofs.part.past.Given as goal

abbrev pub invariant-loop-need : goal.invariant-loop-need
invariant-loop-need l = (l.at ≤ l.p) × (l.p ≤ length l.s) × (l.need ≤ 1 + 2 * l.p) × Passed l.s l.at l.owing l.p l.need

abbrev pub decreases-loop-need : goal.decreases-loop-need
decreases-loop-need l = length l.s - l.p
