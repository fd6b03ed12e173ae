-- `compare::code_len` meets its contract. Assumes nothing.
use native.Mathlib.Omega.{arith}
use mathlib.Core.Path.{ap}
use lib.ListN.{length}
use Rattle.text.proofs.Codes.{utf8-one}
use Rattle.compare.proofs.Letters.{two_bytes, three_bytes, four_bytes}
use Rattle.compare.proofs.code_len.Goals as goal

pub returns-in-0-to-127 : goal.returns-in-0-to-127
returns-in-0-to-127 c = ap length (utf8-one c.args.code (omega arith))

pub returns-in-0-to-2047 : goal.returns-in-0-to-2047
returns-in-0-to-2047 c = ap length (two_bytes c.args.code (omega arith) (omega arith))

pub returns-in-0-to-65535 : goal.returns-in-0-to-65535
returns-in-0-to-65535 c = ap length (three_bytes c.args.code (omega arith) (omega arith))

pub returns-in_default : goal.returns-in_default
returns-in_default c = ap length (four_bytes c.args.code (omega arith))
