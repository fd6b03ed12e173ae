-- `overlap::way::put_split` meets its contract.
use native.Mathlib.Omega.{arith}
use lib.ListN.{length-set}
use Rattle.overlap.proofs.way.put_split.Goals as goal

pub bounds-room-at-2 : goal.bounds-room-at-2
bounds-room-at-2 c = simp length-set (omega (arith, c.requires))

pub bounds-room-at-3 : goal.bounds-room-at-3
bounds-room-at-3 c = simp length-set (omega (arith, c.requires))
