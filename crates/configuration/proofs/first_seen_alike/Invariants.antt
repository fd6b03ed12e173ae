-- `configuration::first_seen_alike` meets its contract. Assumes nothing.
use Prim.Native.Nat.{◌-◌, ◌≤◌}
use lib.ListN.{length}
use Rattle.patterns.specs.Names.{caseless}
use Rattle.configuration.specs.Lockstep.{Walked}
use Rattle.configuration.proofs.Scan.{Scanning}
use Rattle.configuration.proofs.first_seen_alike.Given as goal

abbrev pub invariant-loop-x : goal.invariant-loop-x
invariant-loop-x l = (l.y ≤ length l.b) × ((w : Walked l.a l.b l.i l.j) → Scanning l.a l.b l.i l.j l.x l.y (caseless l.n) (caseless l.m) w)

abbrev pub decreases-loop-x : goal.decreases-loop-x
decreases-loop-x l = l.i - l.x
