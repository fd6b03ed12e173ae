-- `overlap::way::open_split` meets its contract.
use native.Mathlib.Omega.{arith}
use mathlib.Core.Path.{refl}
use mathlib.Core.Logic.{inl, inr}
use Rattle.overlap.proofs.way.open_split.Goals as goal

pub returns-then-room-at : goal.returns-then-room-at
returns-then-room-at c = inr (refl, refl)

pub returns : goal.returns
returns c = inl (refl, c.put_split.ensures, omega arith)
