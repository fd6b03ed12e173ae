-- `restrictions::program_sites` meets its contract. Assumes nothing.
use Prim.Native.Nat.{◌-◌, ◌≤◌}
use lib.ListN.{length, drop}
use Rattle.image.specs.Parts.{FunctionsAt}
use Rattle.restrictions.proofs.Walking.{Walking}
use Rattle.restrictions.proofs.program_sites.Given as goal

abbrev pub invariant-loop-p : goal.invariant-loop-p
invariant-loop-p l = (l.p ≤ length l.b) × ((h : FunctionsAt (drop l.from l.b)) → Walking l.b l.from l.initial.sites l.n l.sites l.p l.sentence l.k h)

abbrev pub decreases-loop-p : goal.decreases-loop-p
decreases-loop-p l = length l.b - l.p
