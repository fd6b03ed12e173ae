-- `overlap::told` meets its contract.
use Prim.Native.Nat.{◌-◌, ◌/◌}
use mathlib.Core.Path.{ap}
use borrow.Author.Tests.{lt-ltb, le-ltb}
use Rattle.patterns.specs.declared.Verdict.{Verdict}
use Rattle.patterns.specs.Search.{found}
use Rattle.rows.specs.Cells.{costing}
use Rattle.overlap.proofs.told.Goals as goal

pub returns-then-fuel-cost : goal.returns-then-fuel-cost
unfolding costing
returns-then-fuel-cost c v e = let a = c.args in rw (lt-ltb a.fuel (a.cell / 4) c.if-fuel-cost.true)

pub returns : goal.returns
unfolding costing
returns c v e =
    let a = c.args in
    rw (le-ltb a.fuel (a.cell / 4) c.if-fuel-cost.false) (ap (λ (w : Verdict). found w (a.fuel - a.cell / 4)) (c.verdict_of-verdict.ensures v e))
