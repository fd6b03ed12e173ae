use Prim.Native.Nat.{◌+◌, ◌≤◌, ◌-◌, ◌*◌}
use lib.ListN.{length, drop}
use Rattle.program.specs.Limits.{Mode}
use Rattle.image.specs.Parts.{TermsAt}
use Rattle.overlap.specs.Way.{Way, in_turn}
use Rattle.expression.specs.Walk.{meet_bytes, Stepped}
use mathlib.Core.List.{[]}
use Rattle.rows.specs.Rows.{Kept}
use Rattle.expression.proofs.walk.+advance_meet_put_heads.Given as goal

abbrev pub decreases-advance : goal.decreases-advance
decreases-advance l = 3 * ((length l.b.now - l.step.left) + (length l.b.now - l.step.right)) + 1

abbrev pub decreases-meet : goal.decreases-meet
decreases-meet l = 3 * ((length l.b.now - l.start.left) + (length l.b.now - l.start.right)) + 2

abbrev pub decreases-put_heads : goal.decreases-put_heads
decreases-put_heads l = 3 * ((length l.b.now - l.step.left) + (length l.b.now - l.step.right))

abbrev pub invariant-meet-loop-s : goal.invariant-meet-loop-s
invariant-meet-loop-s l =
    Kept l.fn.start.ends.next l.initial.room l.room × Way l.b (in_turn l.room l.s.ends.next l.s.ends.known []) l.s.fuel l.s.left l.s.right × (l.s.ends.next + 3 * l.s.ends.known ≤ length l.room) × (l.fn.start.ends.next ≤ l.s.ends.next + 3 * l.s.ends.known)
    × ((p : TermsAt Mode.pattern (drop l.fn.start.left l.b)) (q : TermsAt Mode.pattern (drop l.fn.start.right l.b)) → Stepped l.b l.initial.out (l.fn.start.left + l.fn.start.right) l.fn.start.fuel (meet_bytes l.fn.start.swapped l.fn.start.fuel p.terms q.terms) l.s l.out)

abbrev pub decreases-meet-loop-s : goal.decreases-meet-loop-s
decreases-meet-loop-s l = l.s.fuel
