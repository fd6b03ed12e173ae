-- `overlap::sequence_overlap` meets its contract.
use Rattle.overlap.proofs.sequence_overlap.Goals as goal

pub overlap_behind-requires : goal.overlap_behind-requires
overlap_behind-requires c = c.requires

pub shape_of-room : goal.shape_of-room
shape_of-room c = c.overlap_behind.ensures.keeps.length

pub returns : goal.returns
returns c = record { answers = c.overlap_behind.ensures.answers; keeps = c.overlap_behind.ensures.keeps.length }
