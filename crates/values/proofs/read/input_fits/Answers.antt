use native.Mathlib.Omega.{arith}
use lib.ListN.{get_or}
use Rattle.meaning.proofs.Tokens.{balanced}
use Rattle.values.proofs.Sizes.{read-at, size-at}
use Rattle.values.proofs.Turns.{part, input-start, left_end, left-none, left-next, left_false, size-within, depth_small, balanced_next, balanced_closed}
use Rattle.values.proofs.read.input_fits.Goals as goal

pub loop-at-init : goal.loop-at-init
loop-at-init c = (omega arith, omega arith, input-start c.args.s.now)

pub returns-in_default : goal.returns-in_default
returns-in_default c = left-none c.loop-at.invariant.2 c.loop-at-test.true c.in_default.ensures

pub returns-in_default-depth_after : goal.returns-in_default-depth_after
returns-in_default-depth_after c =
    let l = c.loop-at in
    let d = c.in_default-depth_after.ensures in
    left_false l.invariant.2 (read-at c.in-Some.ensures c.in-Some.t.there) (λ t k m. balanced_closed t m (get_or (part c.args.s.now l.at) 0 0) l.depth k d.0 d.1)

pub overflow_add-at : goal.overflow_add-at
overflow_add-at c = omega (arith, (size-within c.args.s.now c.loop-at.at (read-at c.in-Some.ensures c.in-Some.t.there) (size-at c.in-Some.ensures c.in-Some.t.there c.size-at.ensures)).1)

pub loop-at-smaller : goal.loop-at-smaller
loop-at-smaller c =
    let w = size-within c.args.s.now c.loop-at.at (read-at c.in-Some.ensures c.in-Some.t.there) (size-at c.in-Some.ensures c.in-Some.t.there c.size-at.ensures) in
    omega (arith, w.0, w.1)

pub loop-at-preserved : goal.loop-at-preserved
loop-at-preserved c =
    let l = c.loop-at in
    let m = get_or (part c.args.s.now l.at) 0 0 in
    let t = read-at c.in-Some.ensures c.in-Some.t.there in
    let n = size-at c.in-Some.ensures c.in-Some.t.there c.size-at.ensures in
    let w = size-within c.args.s.now l.at t n in
    let e = c.in-Some-depth_after.after in
    let g = c.in-Some-depth_after.ensures in
    let d = depth_small m l.depth g.0 in
    (omega (arith, w.1), omega (arith, d, w.0), left-next l.invariant.2 t n e (λ u k r. balanced_next u r m l.depth e k g.1 g.0))

pub returns : goal.returns
unfolding balanced
returns c = left_end c.loop-at.invariant.2 c.loop-at-test.false
