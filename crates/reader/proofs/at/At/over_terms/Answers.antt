use native.Mathlib.Omega.{arith}
use mathlib.Core.Path.{subst}
use Prim.Native.Nat.{ℕ}
use Rattle.reader.specs.Tally.{Stops}
use Rattle.reader.proofs.Passing.{spot, stops_flat, stops-close}
use Rattle.reader.proofs.at.At.over_terms.Goals as goal

pub returns-then-b-p-ne15 : goal.returns-then-b-p-ne15
returns-then-b-p-ne15 c =
    let a = c.args in
    subst (λ (n : ℕ). Stops a.self.now.b.now a.s.now a.top a.self.now.p (spot n c.flat_terms-p.result)) (omega (arith, c.loop-k-test.true))
    (stops_flat a.self.now.b.now a.s.now a.top a.self.now.p c.loop-k.k c.loop-k.p c.flat_terms-p.result c.loop-k.invariant c.loop-k-test.true (c.is_terms.ensures c.if-not-is_terms.false) c.flat_terms-p.ensures)

pub loop-k-preserved : goal.loop-k-preserved
loop-k-preserved c =
    let a = c.args in
    let t = c.is_terms.ensures c.if-not-is_terms.false in
    let w = stops_flat a.self.now.b.now a.s.now a.top a.self.now.p c.loop-k.k c.loop-k.p c.flat_terms-p.result c.loop-k.invariant c.loop-k-test.true t c.flat_terms-p.ensures in
    stops-close a.self.now.b.now a.s.now a.top a.self.now.p c.loop-k.k c.flat_terms-p.result w c.loop-k-test.true t (omega arith) (omega arith)
