-- `image::number::span_at` meets its contract. Assumes nothing.
use Rattle.program.specs.Bytes.{get_span}
use Rattle.image.proofs.number.span_at.Goals as goal

pub returns : goal.returns
unfolding get_span
returns c = (c.read32-start.ensures, c.read32-end.ensures)
