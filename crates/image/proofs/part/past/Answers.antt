use Rattle.image.proofs.Skip.{passed_next, passed_end, passed_done}
use native.Mathlib.Omega.{arith}
use Prim.Native.Nat.{◌+◌, min}
use mathlib.Core.Path.{◌≡◌}
use lib.ListN.{length}
use Rattle.image.proofs.part.past.Goals as goal

pub loop-need-preserved : goal.loop-need-preserved
loop-need-preserved c =
    let l = c.loop-need in
    let e : c.min-p.result ≡ min (length c.args.s.now) (l.p + 1 + c.fields_of-w.result) = omega arith in
    (omega arith, omega arith, omega arith, passed_next _ _ _ l.p l.need _ _ _ l.invariant.3 c.if-p-s.true c.loop-need-test.true c.fields_of-w.ensures.0 e c.owed_after-need.ensures.0)

pub returns-else-p-s : goal.returns-else-p-s
returns-else-p-s c = (passed_end _ _ _ _ _ c.loop-need.invariant.3 c.if-p-s.false, (omega arith, omega arith))

pub returns-after-loop-need : goal.returns-after-loop-need
returns-after-loop-need c = (passed_done _ _ _ _ _ c.loop-need.invariant.3 c.loop-need-test.false, (omega arith, omega arith))
