-- `index::listing::list_functions` meets its contract. Assumes nothing.
use Prim.Native.Nat.{◌-◌, ◌≤◌}
use lib.ListN.{length, drop}
use Rattle.image.specs.Parts.{FunctionsAt}
use Rattle.index.proofs.Listed.{Listing}
use Rattle.index.proofs.listing.list_functions.Given as goal

abbrev pub invariant-loop-p : goal.invariant-loop-p
invariant-loop-p l = (l.p ≤ length l.b) × ((h : FunctionsAt (drop l.from l.b)) → Listing l.b l.from l.initial.work l.lines l.work l.p l.f l.s h)

abbrev pub decreases-loop-p : goal.decreases-loop-p
decreases-loop-p l = length l.b - l.p
