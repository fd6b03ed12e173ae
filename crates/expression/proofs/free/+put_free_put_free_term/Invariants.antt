use Prim.Native.Nat.{◌+◌, ◌-◌, ◌≤◌, ◌*◌}
use lib.ListN.{length}
use Rattle.program.specs.Limits.{Mode}
use Rattle.image.specs.Parts.{TermsAt}
use Rattle.expression.proofs.Freeing.{Freeing}
use Rattle.expression.proofs.free.+put_free_put_free_term.Given as goal

abbrev pub decreases-put_free : goal.decreases-put_free
decreases-put_free l = 2 * length l.s.now + 1

abbrev pub decreases-put_free_term : goal.decreases-put_free_term
decreases-put_free_term l = 2 * length l.s.now

abbrev pub invariant-put_free-loop-i : goal.invariant-put_free-loop-i
invariant-put_free-loop-i l = (l.i ≤ length l.s) × ((t : TermsAt Mode.pattern l.s) → Freeing l.initial.out t l.i l.out)

abbrev pub decreases-put_free-loop-i : goal.decreases-put_free-loop-i
decreases-put_free-loop-i l = length l.s - l.i
