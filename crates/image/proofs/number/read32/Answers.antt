use Rattle.std.proofs.Common.{arith}
use Rattle.program.specs.Bytes.{get32}
use Rattle.image.proofs.number.read32.Goals as goal

pub returns : goal.returns
unfolding get32
returns c = omega arith
