-- `image::part::result_start` meets its contract. Assumes nothing.
use Prim.Native.Nat.{◌-◌, ◌≤◌}
use lib.ListN.{length}
use Rattle.image.specs.Parts.{SentenceAt}
use Rattle.image.proofs.Readings.{ConditionsFrom}
use Rattle.image.proofs.part.result_start.Given as goal

abbrev pub invariant-loop-p : goal.invariant-loop-p
invariant-loop-p l = (l.p ≤ length l.s) × ((x : SentenceAt l.s) → ConditionsFrom l.s l.p x)

abbrev pub decreases-loop-p : goal.decreases-loop-p
decreases-loop-p l = length l.s - l.p
