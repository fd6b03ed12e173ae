use native.Mathlib.Omega.{arith}
use lib.ListN.{get_or}
use Rattle.meaning.proofs.Tokens.{answered}
use Rattle.values.proofs.Sizes.{read-at, size-at}
use Rattle.values.proofs.Turns.{part, answers-start, left_end, left-none, left-next, size-within, answered_next}
use Rattle.values.proofs.Bytes.{owed-room}
use Rattle.values.proofs.read.answers_fit.Goals as goal

pub loop-at-init : goal.loop-at-init
loop-at-init c = (omega arith, omega arith, answers-start c.args.s.now)

pub returns-in_default : goal.returns-in_default
returns-in_default c = left-none c.loop-at.invariant.2 c.loop-at-test.true c.in_default.ensures

pub overflow_add-at : goal.overflow_add-at
overflow_add-at c = omega (arith, (size-within c.args.s.now c.loop-at.at (read-at c.in-Some.ensures c.in-Some.t.there) (size-at c.in-Some.ensures c.in-Some.t.there c.size-at.ensures)).1)

pub loop-at-smaller : goal.loop-at-smaller
loop-at-smaller c =
    let w = size-within c.args.s.now c.loop-at.at (read-at c.in-Some.ensures c.in-Some.t.there) (size-at c.in-Some.ensures c.in-Some.t.there c.size-at.ensures) in
    omega (arith, w.0, w.1)

pub loop-at-preserved : goal.loop-at-preserved
loop-at-preserved c =
    let l = c.loop-at in
    let m = get_or (part c.args.s.now l.at) 0 0 in
    let t = read-at c.in-Some.ensures c.in-Some.t.there in
    let n = size-at c.in-Some.ensures c.in-Some.t.there c.size-at.ensures in
    let e = c.owed_after-owed.result in (
      omega (arith, (size-within c.args.s.now l.at t n).1),
      owed-room t n l.owed e l.at c.owed_after-owed.ensures l.invariant.1,
      left-next l.invariant.2 t n e (λ u k r. answered_next u r m l.owed e k c.owed_after-owed.ensures),
    )

pub returns : goal.returns
unfolding answered
returns c = left_end c.loop-at.invariant.2 c.loop-at-test.false
