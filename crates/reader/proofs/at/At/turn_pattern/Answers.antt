-- `reader::at::At::turn_pattern` meets its contract. Assumes nothing.
use native.Mathlib.Omega.{arith}
use Rattle.program.specs.Limits.{Mode}
use Rattle.reader.proofs.Turning.{bracket-at, deep_pattern, inside_pattern}
use Rattle.reader.proofs.at.At.turn_pattern.Goals as goal

pub returns-then-d-lt32 : goal.returns-then-d-lt32
returns-then-d-lt32 c = bracket-at _ _ _ c.args.self.now.inside Mode.pattern c.in-7.is c.if-d-lt32.true c.spanned.ensures

pub returns-else-d-lt32 : goal.returns-else-d-lt32
returns-else-d-lt32 c = deep_pattern _ _ _ c.args.self.now.inside c.in-7.is c.if-d-lt32.false c.at.ensures

pub returns-in-8 : goal.returns-in-8
returns-in-8 c = inside_pattern _ _ _ c.args.self.now.inside (omega arith) (omega arith) c.at-in-8.ensures
