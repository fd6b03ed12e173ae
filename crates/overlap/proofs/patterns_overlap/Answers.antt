-- `overlap::patterns_overlap` meets its contract.
use native.Mathlib.Omega.{arith}
use Rattle.overlap.proofs.patterns_overlap.Goals as goal

pub sequence_overlap-requires : goal.sequence_overlap-requires
sequence_overlap-requires c = let s = c.requires in (s.0, s.1, s.2, omega arith)

pub shape_of-room : goal.shape_of-room
shape_of-room c = c.sequence_overlap.ensures.keeps

pub returns : goal.returns
returns c = record { answers = c.sequence_overlap.ensures.answers; keeps = c.sequence_overlap.ensures.keeps }
