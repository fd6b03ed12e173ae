use Rattle.std.proofs.Common.{◌≡◌, take}
use Rattle.text.specs.Written.{written}
use Rattle.text.proofs.writer.Writer.put_bytes.Given as goal

abbrev pub invariant-loop-b : goal.invariant-loop-b
invariant-loop-b l = l.self ≡ written l.initial.self (take l.b-index l.bytes)
