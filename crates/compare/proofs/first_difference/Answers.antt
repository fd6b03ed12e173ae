use native.Mathlib.Omega.{arith}
use mathlib.Core.Path.{refl}
use Rattle.rows.proofs.Readings.{part_length}
use Rattle.compare.proofs.Letters.{token-long}
use Rattle.compare.proofs.Same.{none-left, some-left, coming_within, coming_few, same_first, keeping_first, keeping_end, keeping-next, token-one, token-two}
use Rattle.compare.proofs.first_difference.Goals as goal

pub bounds-a-0 : goal.bounds-a-0
bounds-a-0 c = coming_within (same_first c.requires.0 c.requires.1).one

pub bounds-b-0 : goal.bounds-b-0
bounds-b-0 c = coming_within (same_first c.requires.0 c.requires.1).two

pub returns-then-a-b : goal.returns-then-a-b
returns-then-a-b c = λ t u. (refl, same_first t u)

pub loop-x-init : goal.loop-x-init
loop-x-init c = record { first = refl; keeping = λ t u. keeping_first t u c.if-a-b.false }

pub slice_bounds-x-count : goal.slice_bounds-x-count
slice_bounds-x-count c = omega (arith, coming_within (c.loop-x.invariant.keeping c.requires.0 c.requires.1).before.one)

pub slice_bounds-x-start : goal.slice_bounds-x-start
slice_bounds-x-start c = omega (arith, coming_within (c.loop-x.invariant.keeping c.requires.0 c.requires.1).before.one)

pub slice_bounds-y-count : goal.slice_bounds-y-count
slice_bounds-y-count c = omega (arith, coming_within (c.loop-x.invariant.keeping c.requires.0 c.requires.1).before.two)

pub slice_bounds-y-start : goal.slice_bounds-y-start
slice_bounds-y-start c = omega (arith, coming_within (c.loop-x.invariant.keeping c.requires.0 c.requires.1).before.two)

pub bounds-x-0 : goal.bounds-x-0
bounds-x-0 c = omega (arith, coming_within (c.loop-x.invariant.keeping c.requires.0 c.requires.1).before.one, part_length c.args.a.now c.loop-x.at.token)

pub closes_after-closes-requires : goal.closes_after-closes-requires
closes_after-closes-requires c =
    let x = (c.loop-x.invariant.keeping c.requires.0 c.requires.1).before.one in
    (x.some, omega (arith, coming_few x, part_length c.args.a.now c.loop-x.at.token))

pub returns-then-closes-eq0 : goal.returns-then-closes-eq0
returns-then-closes-eq0 c = λ t u.
    let k = c.loop-x.invariant.keeping t u in
    let e = none-left _ _ _ k.before.one.some c.closes_after-closes.ensures c.if-closes-eq0.true in
    keeping_end k e.0 e.1

pub invariant_of-same_letters : goal.invariant_of-same_letters
invariant_of-same_letters c = record { inside = token-one (c.loop-x.invariant.keeping c.requires.0 c.requires.1) (some-left _ _ _ c.closes_after-closes.ensures c.if-closes-eq0.false) }

pub invariant_of-same_letters-in-loop-x : goal.invariant_of-same_letters-in-loop-x
invariant_of-same_letters-in-loop-x c = record { inside = token-two (c.loop-x.invariant.keeping c.requires.0 c.requires.1) (some-left _ _ _ c.closes_after-closes.ensures c.if-closes-eq0.false) }

pub same_letters-requires : goal.same_letters-requires
same_letters-requires c = (c.loop-x.invariant.keeping c.requires.0 c.requires.1).mark

pub loop-x-smaller : goal.loop-x-smaller
loop-x-smaller c =
    let k = c.loop-x.invariant.keeping c.requires.0 c.requires.1 in
    let x = token-one k (some-left _ _ _ c.closes_after-closes.ensures c.if-closes-eq0.false) in
    omega (arith, c.in-Some.ensures.1, token-long x, coming_within k.before.one)

pub loop-x-preserved : goal.loop-x-preserved
loop-x-preserved c = record {
  first = refl;
  keeping = λ t u.
      let k = c.loop-x.invariant.keeping t u in
      let n = some-left _ _ _ c.closes_after-closes.ensures c.if-closes-eq0.false in
      keeping-next k n c.in-Some.n c.closes_after-closes.result c.closes_after-closes.ensures c.in-Some.ensures;
}
