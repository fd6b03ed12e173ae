-- `reader::at::At::turn_conditions` meets its contract. Assumes nothing.
use native.Mathlib.Omega.{arith}
use Rattle.reader.proofs.Turning.{conditions-condition, conditions-result, conditions-wrong}
use Rattle.reader.proofs.at.At.turn_conditions.Goals as goal

pub returns-in-11 : goal.returns-in-11
returns-in-11 c = conditions-condition _ _ c.args.self.now.inside _ c.in-11.is c.spanned.ensures

pub returns-in-12 : goal.returns-in-12
returns-in-12 c = conditions-result _ _ c.args.self.now.inside _ c.in-12.is c.go.ensures

pub returns-in_default : goal.returns-in_default
returns-in_default c = conditions-wrong _ _ c.args.self.now.inside _ (λ z. omega arith) (λ z. omega arith) c.at.ensures
