-- `matching::bindings::put_number` meets its contract: the two low bytes are the number. Assumes nothing.
use mathlib.Core.Path.{ap}
use lib.ListN.{take}
use Rattle.program.specs.Bytes.{put16}
use Rattle.text.proofs.Fill.{emitted-same}
use Rattle.matching.proofs.bindings.put_number.Goals as goal

pub returns : goal.returns
unfolding put16
returns c = emitted-same (ap (take 2) c.to_le_bytes.ensures) c.put_bytes.ensures
