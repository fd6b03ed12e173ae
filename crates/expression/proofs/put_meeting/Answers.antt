-- `expression::put_meeting` meets its contract. Assumes nothing.
use native.Mathlib.Omega.{arith}
use mathlib.Core.Bool.{false}
use mathlib.Core.List.{[]}
use Rattle.patterns.specs.Marks.{put_expression}
use Rattle.patterns.specs.Meet.{meet}
use Rattle.text.proofs.Written.{lent}
use Rattle.expression.proofs.Bound.{meeting_short}
use Rattle.expression.proofs.put_meeting.Goals as goal

pub meet-requires : goal.meet-requires
meet-requires c =
    let p = c.requires in
    (record { first = p.0; second = p.1; short = omega (arith, meeting_short c.args.b.now c.args.p c.args.q false 4096 p.0 p.1, p.2) }, p.2, omega arith, omega arith)

pub returns : goal.returns
unfolding meet
returns c = λ x y. lent _ (put_expression (meet x.terms y.terms) []) (c.meet.ensures.writes x y) search
