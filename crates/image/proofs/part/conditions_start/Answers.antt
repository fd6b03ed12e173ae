-- `image::part::conditions_start` meets its contract. Assumes nothing.
use native.Mathlib.Omega.{arith}
use Rattle.image.proofs.Readings.{sentence-room, past-pattern}
use Rattle.image.proofs.part.conditions_start.Goals as goal

pub past-requires : goal.past-requires
past-requires c = let z = sentence-room c.args.s.now c.requires in (omega arith, omega arith)

pub returns : goal.returns
returns c = past-pattern c.args.s.now _ c.past.ensures.0 c.past.ensures.1.1
