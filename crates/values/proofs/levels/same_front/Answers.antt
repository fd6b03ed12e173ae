use mathlib.Core.List.{[]}
use native.Mathlib.Omega.{arith}
use Rattle.meaning.proofs.Inputs.{tokens_of}
use Rattle.values.proofs.Sizes.{token-told}
use Rattle.values.proofs.Expressions.{stepped_first, stepped_short, stepped_off, stepped_on, front-nowhere, front_until, part-token, part-room, value-tokens}
use Rattle.values.proofs.levels.same_front.Goals as goal

pub loop-i-init : goal.loop-i-init
loop-i-init c = (omega arith, omega arith, λ u v. stepped_first c.args.a.now c.args.b.now (tokens_of u.expression []) (tokens_of v.level v.behind) (value-tokens u) v.is)

pub returns-then-b-j : goal.returns-then-b-j
returns-then-b-j c = λ u v. front-nowhere u v (stepped_short (c.loop-i.invariant.2 u v) c.loop-i-test.true c.if-b-j.true)

pub invariant_of-x : goal.invariant_of-x
invariant_of-x c = record { there = token-told _ (part-token c.args.a.now c.loop-i.i (c.loop-i.invariant.2 c.requires.0 c.requires.1).is_a c.loop-i-test.true) }

pub invariant_of-y : goal.invariant_of-y
invariant_of-y c = record { there = token-told _ (part-token c.args.b.now c.loop-i.j (c.loop-i.invariant.2 c.requires.0 c.requires.1).is_b c.if-b-j.false) }

pub returns-then-not-same : goal.returns-then-not-same
returns-then-not-same c = λ u v. front-nowhere u v (stepped_off (c.loop-i.invariant.2 u v) c.loop-i-test.true c.if-b-j.false c.same.ensures c.if-not-same.true)

pub overflow_add-i : goal.overflow_add-i
overflow_add-i c = omega (arith, (part-room c.args.a.now c.loop-i.i (c.loop-i.invariant.2 c.requires.0 c.requires.1).is_a c.loop-i-test.true c.size-i.ensures).1)

pub overflow_add-j : goal.overflow_add-j
overflow_add-j c = omega (arith, (part-room c.args.b.now c.loop-i.j (c.loop-i.invariant.2 c.requires.0 c.requires.1).is_b c.if-b-j.false c.size-j.ensures).1)

pub loop-i-smaller : goal.loop-i-smaller
loop-i-smaller c =
    let r = part-room c.args.a.now c.loop-i.i (c.loop-i.invariant.2 c.requires.0 c.requires.1).is_a c.loop-i-test.true c.size-i.ensures in
    omega (arith, r.0, r.1)

pub loop-i-preserved : goal.loop-i-preserved
loop-i-preserved c =
    let l = c.loop-i in
    let p = l.invariant.2 c.requires.0 c.requires.1 in (
      omega (arith, (part-room c.args.a.now c.loop-i.i p.is_a c.loop-i-test.true c.size-i.ensures).1),
      omega (arith, (part-room c.args.b.now c.loop-i.j p.is_b c.if-b-j.false c.size-j.ensures).1),
      λ u v. stepped_on (l.invariant.2 u v) c.loop-i-test.true c.if-b-j.false c.same.ensures c.if-not-same.false c.size-i.ensures c.size-j.ensures,
    )

pub returns : goal.returns
returns c = λ u v. front_until u v (c.loop-i.invariant.2 u v) c.loop-i-test.false
