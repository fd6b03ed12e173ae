use native.Mathlib.Omega.{arith}
use native.Mathlib.Nat.{sub-zero}
use Rattle.reader.proofs.Passing.{counted-first, names-next, counted-done}
use Rattle.program.specs.Automaton.{Stack}
use Rattle.reader.proofs.at.At.counted_end.Goals as goal

pub loop-i-init : goal.loop-i-init
loop-i-init c = (omega arith, omega arith, rw sub-zero (counted-first c.args.self.now.b.now c.args.self.now.p c.args.self.now.inside))

pub loop-i-preserved : goal.loop-i-preserved
loop-i-preserved c =
    let e = c.in_ok-p.ensures in
    let z = e Stack.body in
    (omega (arith, c.loop-i.invariant.0, z.0), z.1, names-next c.args.self.now.b.now c.loop-i.p c.loop-i.invariant.1 c.args.self.now.p _ c.loop-i.i c.in_ok-p.p c.loop-i-test.true c.loop-i.invariant.2 e)

pub returns : goal.returns
returns c = counted-done c.loop-i.invariant.0 c.loop-i.invariant.1 c.loop-i-test.false c.loop-i.invariant.2
