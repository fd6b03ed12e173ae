-- `compare::Token::same_letters` meets its contract. Assumes nothing.
use Rattle.compare.proofs.Same.{letters-if}
use Rattle.compare.proofs.Token.same_letters.Goals as goal

pub returns : goal.returns
returns c = letters-if c.args.self.bytes.now c.args.other.bytes.now c.in_ok-n.n c.then_some.ensures c.requires c.in_ok-n.ensures
