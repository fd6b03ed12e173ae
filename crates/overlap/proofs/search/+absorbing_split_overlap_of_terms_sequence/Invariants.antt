use Prim.Native.Nat.{◌≤◌, ◌+◌, ◌*◌}
use lib.ListN.{length}
use Rattle.program.specs.Limits.{Mode}
use Rattle.image.specs.Parts.{TermsAt}
use mathlib.Core.Path.{◌≡◌}
use Rattle.overlap.proofs.Turns.{Splitting, Reached}
use Rattle.overlap.proofs.search.+absorbing_split_overlap_of_terms_sequence.Given as goal

abbrev pub decreases-absorbing_split : goal.decreases-absorbing_split
decreases-absorbing_split l = 3 * (length l.rest.now + length l.other.now) + 2

abbrev pub decreases-overlap_of_terms : goal.decreases-overlap_of_terms
decreases-overlap_of_terms l = 3 * (length l.left.now + length l.right.now)

abbrev pub decreases-sequence : goal.decreases-sequence
decreases-sequence l = 3 * (length l.left.now + length l.right.now) + 1

abbrev pub invariant-absorbing_split-loop-inner : goal.invariant-absorbing_split-loop-inner
invariant-absorbing_split-loop-inner l =
    (length l.x ≤ length l.other) × ((u : TermsAt Mode.pattern l.rest) (v : TermsAt Mode.pattern l.other) → Splitting l.fuel l.x l.f l.verdict u.terms v.terms)
    × (l.left.deep ≡ l.fn.limits.deep)

abbrev pub decreases-absorbing_split-loop-inner : goal.decreases-absorbing_split-loop-inner
decreases-absorbing_split-loop-inner l = length l.x

abbrev pub invariant-sequence-loop-f : goal.invariant-sequence-loop-f
invariant-sequence-loop-f l =
    (length l.x + length l.y ≤ length l.left + length l.right)
    × ((u : TermsAt Mode.pattern l.left) (v : TermsAt Mode.pattern l.right) → Reached l.fuel l.x l.y l.f l.heads u.terms v.terms)
    × (l.rest.deep ≡ l.fn.limits.deep)
