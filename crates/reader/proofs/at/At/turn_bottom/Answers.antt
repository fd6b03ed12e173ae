-- `reader::at::At::turn_bottom` meets its contract. Assumes nothing.
use native.Mathlib.Omega.{arith}
use Rattle.reader.proofs.Turning.{bottom-declaration, bottom-later, bottom-function, bottom-wrong}
use Rattle.reader.proofs.at.At.turn_bottom.Goals as goal

pub returns-then-functions-eq0 : goal.returns-then-functions-eq0
returns-then-functions-eq0 c = bottom-declaration _ _ c.args.self.now.inside _ c.if-functions-eq0.true c.in-17.is c.spanned.ensures

pub returns-else-functions-eq0 : goal.returns-else-functions-eq0
returns-else-functions-eq0 c = bottom-later _ _ c.args.self.now.inside _ c.if-functions-eq0.false c.in-17.is c.at.ensures

pub returns-in-18 : goal.returns-in-18
returns-in-18 c = bottom-function _ _ c.args.self.now.inside _ c.in-18.is c.spanned-in-18.ensures

pub returns-in_default : goal.returns-in_default
returns-in_default c = bottom-wrong _ _ c.args.self.now.inside _ (λ z. omega arith) (λ z. omega arith) c.at-in_default.ensures
