-- `expression::walk::ask` meets its contract: the ends from `right` on make up what all of them do.
use Prim.Native.Nat.{◌-◌}
use lib.ListN.{length, drop}
use Rattle.program.specs.Limits.{Mode}
use Rattle.image.specs.Parts.{TermsAt}
use Rattle.rows.specs.Rows.{Kept}
use Rattle.expression.specs.Walk.{split_bytes}
use Rattle.expression.proofs.Walking.{Absorbing}
use Rattle.expression.proofs.walk.ask.Given as goal

abbrev pub invariant-loop-x : goal.invariant-loop-x
invariant-loop-x l =
    Kept l.step.ends.next l.initial.room l.room
    × ((x : TermsAt Mode.pattern (drop l.step.left l.b)) (y : TermsAt Mode.pattern (drop l.step.right l.b)) → Absorbing l.b l.initial.out l.step.right l.step.fuel l.step.swapped x.terms (split_bytes l.step.swapped l.step.fuel x.terms y.terms) l.right l.fuel l.out)

abbrev pub decreases-loop-x : goal.decreases-loop-x
decreases-loop-x l = length l.b - l.right
