use native.Mathlib.Omega.{arith}
use lib.ListN.{get_or}
use Rattle.meaning.proofs.Inputs.{tokens_of}
use Rattle.text.proofs.Fill.{emitted-length}
use Rattle.values.proofs.Sizes.{token-told}
use Rattle.values.proofs.Turns.{part, part_length, depth_small}
use Rattle.values.proofs.Expressions.{wrote_first, wrote_more, part-token, part-room, part_closed, ended_here, level-written}
use Rattle.values.proofs.levels.put_value.Goals as goal

pub loop-i-init : goal.loop-i-init
loop-i-init c = (omega arith, omega arith, λ v. wrote_first c.args.s.now (tokens_of v.level v.behind) c.args.out.now c.args.at v.is)

pub shape_of-out-in_default : goal.shape_of-out-in_default
shape_of-out-in_default c = emitted-length (c.loop-i.invariant.2 c.requires.0).emitted

pub returns-in_default : goal.returns-in_default
returns-in_default c = λ v.
    let p = c.loop-i.invariant.2 v in
    level-written v p (part_closed c.args.s.now c.loop-i.i p.is c.loop-i-test.true c.in_default.ensures)

pub invariant_of-t : goal.invariant_of-t
invariant_of-t c = record { there = token-told _ (part-token c.args.s.now c.loop-i.i (c.loop-i.invariant.2 c.requires.0).is c.loop-i-test.true) }

pub put-i-requires : goal.put-i-requires
put-i-requires c = omega (arith, part_length c.args.s.now c.loop-i.i)

pub overflow_add-i : goal.overflow_add-i
overflow_add-i c = omega (arith, (part-room c.args.s.now c.loop-i.i (c.loop-i.invariant.2 c.requires.0).is c.loop-i-test.true c.size-i.ensures).1)

pub loop-i-smaller : goal.loop-i-smaller
loop-i-smaller c =
    let r = part-room c.args.s.now c.loop-i.i (c.loop-i.invariant.2 c.requires.0).is c.loop-i-test.true c.size-i.ensures in
    omega (arith, r.0, r.1)

pub loop-i-preserved : goal.loop-i-preserved
loop-i-preserved c =
    let l = c.loop-i in
    let r = part-room c.args.s.now c.loop-i.i (l.invariant.2 c.requires.0).is c.loop-i-test.true c.size-i.ensures in
    let d = depth_small (get_or (part c.args.s.now l.i) 0 0) l.depth c.in-Some.ensures.0 in
    (omega (arith, r.1), omega (arith, r.0, d), λ v. wrote_more (l.invariant.2 v) c.loop-i-test.true c.size-i.ensures c.in-Some.ensures c.put-i.ensures)

pub shape_of-out : goal.shape_of-out
shape_of-out c = emitted-length (c.loop-i.invariant.2 c.requires.0).emitted

pub returns : goal.returns
returns c = λ v.
    let l = c.loop-i in
    let p = l.invariant.2 v in
    level-written v p (ended_here c.args.s.now l.i l.depth p.left p.is c.loop-i-test.false)
