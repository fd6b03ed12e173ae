use native.Mathlib.Omega.{arith}
use Rattle.image.proofs.Readings.{from-room, from_next_room, from_next, from_end}
use Rattle.image.proofs.part.result_start.Goals as goal

pub loop-p-init : goal.loop-p-init
loop-p-init c = (
  (c.conditions_start-p.ensures c.requires).fits,
  λ x. record { conditions = x.sentence.conditions; is = (c.conditions_start-p.ensures x).left },
)

pub bounds-s-p : goal.bounds-s-p
bounds-s-p c =
    let x = c.requires in
    from-room c.args.s.now c.loop-p.p x (c.loop-p.invariant.1 x)

pub overflow_add-p : goal.overflow_add-p
overflow_add-p c =
    let x = c.requires in
    omega (arith, from_next_room c.args.s.now c.loop-p.p x (c.loop-p.invariant.1 x) c.loop-p-test.true)

pub past-p-requires : goal.past-p-requires
past-p-requires c =
    let x = c.requires in
    let z = from_next_room c.args.s.now c.loop-p.p x (c.loop-p.invariant.1 x) c.loop-p-test.true in
    (z, omega arith)

pub loop-p-smaller : goal.loop-p-smaller
loop-p-smaller c =
    let x = c.requires in
    let z = from_next_room c.args.s.now c.loop-p.p x (c.loop-p.invariant.1 x) c.loop-p-test.true in
    omega (arith, z, c.past-p.ensures.1.0)

pub loop-p-preserved : goal.loop-p-preserved
loop-p-preserved c = (
  c.past-p.ensures.1.1,
  λ x. from_next c.args.s.now c.loop-p.p x (c.loop-p.invariant.1 x) c.past-p.result c.loop-p-test.true c.past-p.ensures.0,
)

pub returns : goal.returns
returns c = λ x. from_end c.args.s.now c.loop-p.p x (c.loop-p.invariant.1 x) c.loop-p-test.false
