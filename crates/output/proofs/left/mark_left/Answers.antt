use native.Mathlib.Omega.{arith}
use Rattle.output.proofs.MarkPart.{marks-apart, apart_then, left-turn, left-done}
use Rattle.output.proofs.left.mark_left.Goals as goal

pub loop-s-preserved : goal.loop-s-preserved
loop-s-preserved c =
    let l = c.loop-s in (
      apart_then l.invariant.0 c.mark_sentence.ensures.others,
      left-turn c.args.plan _ l.work c.mark_sentence.new.work l.s c.loop-s-test.true l.invariant.0 l.invariant.1 (c.mark_sentence.ensures.here, c.mark_sentence.ensures.there, c.mark_sentence.ensures.others),
    )

pub returns-clause-marked : goal.returns-clause-marked
returns-clause-marked c =
    let apart = marks-apart c.args.plan c.args.work.now c.keep_all.new.marks c.marks-from.result c.calls-end.result c.marks-from.ensures c.calls-end.ensures (omega arith) c.keep_all.auto.marks in
    (left-done c.args.plan c.args.work.now _ c.loop-s.work c.loop-s.s apart c.loop-s.invariant.0 c.loop-s.invariant.1 (omega arith)).0
