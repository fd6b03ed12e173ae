-- `reader::at::At::turn_sentences` meets its contract. Assumes nothing.
use native.Mathlib.Omega.{arith}
use Rattle.reader.proofs.Turning.{sentences-sentence, sentences-close, sentences-wrong}
use Rattle.reader.proofs.at.At.turn_sentences.Goals as goal

pub returns-in-10 : goal.returns-in-10
returns-in-10 c = sentences-sentence _ _ c.args.self.now.inside _ c.in-10.is c.spanned.ensures

pub returns-in-15 : goal.returns-in-15
returns-in-15 c = sentences-close _ _ c.args.self.now.inside _ c.in-15.is c.go.ensures

pub returns-in_default : goal.returns-in_default
returns-in_default c = sentences-wrong _ _ c.args.self.now.inside _ (λ z. omega arith) (λ z. omega arith) c.at.ensures
