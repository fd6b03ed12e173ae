-- `overlap::way::find_way` meets its contract: its turns keep the trail from the start, and end with a way.
use Prim.Native.Nat.{◌+◌, ◌*◌, ◌≤◌}
use lib.ListN.{length, drop}
use Rattle.program.specs.Limits.{Mode}
use Rattle.image.specs.Parts.{TermsAt}
use Rattle.rows.specs.Rows.{Kept}
use Rattle.overlap.specs.Way.{Trail}
use Rattle.overlap.proofs.way.find_way.Given as goal

abbrev pub invariant-loop-next : goal.invariant-loop-next
invariant-loop-next l =
    Kept l.from l.initial.room l.room × (l.from + 3 * l.pair.height ≤ length l.room) × TermsAt Mode.pattern (drop l.pair.left l.b) × TermsAt Mode.pattern (drop l.pair.right l.b) × Trail l.b l.room l.from l.fuel l.left l.right l.pair.height l.pair.fuel l.pair.left l.pair.right

abbrev pub decreases-loop-next : goal.decreases-loop-next
decreases-loop-next l = l.pair.fuel
