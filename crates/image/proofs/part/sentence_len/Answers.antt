-- `image::part::sentence_len` meets its contract. Assumes nothing.
use native.Mathlib.Omega.{arith}
use Rattle.image.proofs.Readings.{sentence-room, past-sentence}
use Rattle.image.proofs.part.sentence_len.Goals as goal

pub past-requires : goal.past-requires
past-requires c = let z = sentence-room c.args.s.now c.requires in (omega arith, omega arith)

pub returns : goal.returns
returns c = past-sentence c.args.s.now _ c.past.ensures.0 c.past.ensures.1.1
