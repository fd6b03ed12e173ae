-- `compare::Token::letter` meets its contract. Assumes nothing.
use native.Mathlib.Omega.{arith}
use mathlib.Core.Path.{◌∙◌}
use Rattle.compare.proofs.Letters.{own-letter, space_letter}
use Rattle.compare.proofs.Token.letter.Goals as goal

pub text_letter-requires : goal.text_letter-requires
text_letter-requires c = omega (arith, c.if-k-n.true, c.requires.1)

pub returns-then-k-n : goal.returns-then-k-n
returns-then-k-n c = c.text_letter.ensures ∙ own-letter c.args.self.bytes.now c.args.k (omega (arith, c.if-k-n.true, c.requires.1))

pub returns-else-k-n : goal.returns-else-k-n
returns-else-k-n c = space_letter c.args.self.bytes.now c.args.k (omega (arith, c.if-k-n.false, c.requires.1)) c.requires.0
