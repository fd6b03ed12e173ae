use native.Mathlib.Omega.{arith}
use Rattle.program.specs.Limits.{Mode}
use Rattle.program.specs.Automaton.{Stack}
use Rattle.reader.proofs.Passing.{alike_then}
use Rattle.reader.proofs.at.At.flat_terms.Goals as goal

pub loop-end-smaller : goal.loop-end-smaller
loop-end-smaller c = let z = c.in-Some.ensures Mode.result 0 Stack.body in omega (arith, z.0, z.1)

pub loop-end-preserved : goal.loop-end-preserved
loop-end-preserved c =
    let z = c.in-Some.ensures in
    let y = z Mode.result 0 Stack.body in
    (omega (arith, y.0), y.1, λ m d x. alike_then (c.loop-end.invariant.2 m d x) (z m d x).2)
