-- `reader::at::At::turn_terms` meets its contract. Assumes nothing.
use native.Mathlib.Omega.{arith}
use Rattle.reader.proofs.Turning.{turn-character, turn-word, turn-number, turn-close, turn-other}
use Rattle.reader.proofs.at.At.turn_terms.Goals as goal

pub returns-in-1 : goal.returns-in-1
returns-in-1 c = turn-character _ _ c.args.self.now.inside c.requires.0 c.in-1.is c.spanned.ensures

pub returns-in-2 : goal.returns-in-2
returns-in-2 c = turn-word _ _ c.args.self.now.inside c.requires.0 (grind arith) (grind arith) (λ z. grind arith) c.spanned-in-2.ensures

pub returns-in-3 : goal.returns-in-3
returns-in-3 c = turn-number _ _ c.args.self.now.inside c.requires.0 c.in-3.is c.spanned-in-3.ensures

pub returns-in-15 : goal.returns-in-15
returns-in-15 c = turn-close _ _ c.args.self.now.inside c.requires.0 c.in-15.is c.go.ensures

pub returns-in_default : goal.returns-in_default
returns-in_default c = turn-other _ _ c.args.self.now.inside c.requires.0 (grind arith) (λ z. omega arith) c.at.ensures
