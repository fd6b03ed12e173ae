-- `image::part::sentence_at` meets its contract. Assumes nothing.
use Rattle.image.proofs.Finding.{Walks}
use lib.ListN.{length}
use Prim.Native.Nat.{◌-◌, ◌≤◌}
use Rattle.image.proofs.part.sentence_at.Given as goal

abbrev pub invariant-loop-p : goal.invariant-loop-p
invariant-loop-p l = (l.p ≤ length l.b) × Walks l.b l.from l.number l.p l.left

abbrev pub decreases-loop-p : goal.decreases-loop-p
decreases-loop-p l = length l.b - l.p
