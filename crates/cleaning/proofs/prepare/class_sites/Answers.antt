use native.Mathlib.Omega.{arith}
use mathlib.Core.Path.{◌≡◌, subst}
use Rattle.cleaning.specs.Prepared.{ClassesWritten}
use Rattle.cleaning.proofs.Classes.{classes_none}
use Rattle.cleaning.proofs.prepare.class_sites.Goals as goal

pub loop-f-init : goal.loop-f-init
loop-f-init c = (omega arith, λ w h. classes_none w c.args.work.now c.args.plan)

pub class_function-requires : goal.class_function-requires
class_function-requires c =
    let p = c.requires in
    record { program = p.program; old = c.args.work.now; chains = p.chains; written = c.loop-f.invariant.1 p.program p.chains; below = c.loop-f-test.true }

pub loop-f-preserved : goal.loop-f-preserved
loop-f-preserved c = (
  omega (arith, c.loop-f-test.true),
  λ w h. c.class_function.ensures w c.args.work.now h (c.loop-f.invariant.1 w h),
)

pub shape_of-work : goal.shape_of-work
shape_of-work c = let p = c.requires in (c.loop-f.invariant.1 p.program p.chains).length

pub returns : goal.returns
returns c = λ w h.
    let a = c.args in
    let e : c.loop-f.f ≡ a.plan.functions = omega (arith, c.loop-f-test.false, c.loop-f.invariant.0) in
    subst (ClassesWritten w a.work.now c.loop-f.work a.plan) e (c.loop-f.invariant.1 w h)
