-- `expression::walk::follow` meets its contract: the ends from `right` on fail up to the one that is taken.
use Prim.Native.Nat.{ℕ, ◌-◌}
use mathlib.Core.Bool.{Bool}
use lib.ListN.{length, drop}
use Rattle.program.specs.Limits.{Mode}
use Rattle.image.specs.Parts.{TermsAt}
use Rattle.overlap.specs.Way.{Taken}
use Rattle.expression.specs.Walk.{split_bytes, end_of}
use Rattle.expression.proofs.Walking.{Following}
use Rattle.expression.proofs.walk.follow.Given as goal

abbrev pub invariant-loop-right : goal.invariant-loop-right
invariant-loop-right l =
    (rest fuel left : ℕ) (swapped : Bool) (x : TermsAt Mode.pattern (drop rest l.b)) (y : TermsAt Mode.pattern (drop l.other l.b)) → Taken l.b rest l.other fuel (end_of l.end left) → Following l.b l.initial.out l.other fuel swapped x.terms (split_bytes swapped fuel x.terms y.terms) (end_of l.end left) l.right l.out

abbrev pub decreases-loop-right : goal.decreases-loop-right
decreases-loop-right l = length l.b - l.right
