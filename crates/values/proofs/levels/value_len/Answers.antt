use native.Mathlib.Omega.{arith}
use lib.ListN.{get_or}
use Rattle.meaning.proofs.Inputs.{tokens_of}
use Rattle.values.proofs.Sizes.{token-told}
use Rattle.values.proofs.Turns.{part, depth_small}
use Rattle.values.proofs.Expressions.{passed_first, passed_more, part-token, part-room, part_closed, ended_here, level-ends}
use Rattle.values.proofs.levels.value_len.Goals as goal

pub loop-at-init : goal.loop-at-init
loop-at-init c = (omega arith, omega arith, λ v. passed_first c.args.s.now (tokens_of v.level v.behind) v.is)

pub returns-in_default : goal.returns-in_default
returns-in_default c = λ v.
    let l = c.loop-at in
    let p = l.invariant.2 v in
    level-ends v p l.invariant.0 (part_closed c.args.s.now c.loop-at.at p.is c.loop-at-test.true c.in_default.ensures)

pub invariant_of-size : goal.invariant_of-size
invariant_of-size c = record { there = token-told _ (part-token c.args.s.now c.loop-at.at (c.loop-at.invariant.2 c.requires).is c.loop-at-test.true) }

pub overflow_add-at : goal.overflow_add-at
overflow_add-at c = omega (arith, (part-room c.args.s.now c.loop-at.at (c.loop-at.invariant.2 c.requires).is c.loop-at-test.true c.size-at.ensures).1)

pub loop-at-smaller : goal.loop-at-smaller
loop-at-smaller c =
    let r = part-room c.args.s.now c.loop-at.at (c.loop-at.invariant.2 c.requires).is c.loop-at-test.true c.size-at.ensures in
    omega (arith, r.0, r.1)

pub loop-at-preserved : goal.loop-at-preserved
loop-at-preserved c =
    let l = c.loop-at in
    let r = part-room c.args.s.now c.loop-at.at (l.invariant.2 c.requires).is c.loop-at-test.true c.size-at.ensures in
    let d = depth_small (get_or (part c.args.s.now l.at) 0 0) l.depth c.in-Some.ensures.0 in
    (omega (arith, r.1), omega (arith, r.0, d), λ v. passed_more (l.invariant.2 v) c.loop-at-test.true c.size-at.ensures c.in-Some.ensures)

pub returns : goal.returns
returns c = λ v.
    let l = c.loop-at in
    let p = l.invariant.2 v in
    level-ends v p l.invariant.0 (ended_here c.args.s.now l.at l.depth p.left p.is c.loop-at-test.false)
