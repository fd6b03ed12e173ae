use Rattle.std.proofs.Common.{arith}
use Rattle.program.specs.Bytes.{get16}
use Rattle.image.proofs.number.read16.Goals as goal

pub returns : goal.returns
unfolding get16
returns c = omega arith
